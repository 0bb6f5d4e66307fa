-- Decided by the inputs: where the reader starts, and a step of it, with what the clause of each says written out, and held to the clause itself.
use mathlib.Core.Path.{◌≡◌, refl}
use seplogic.Ra.Ura.{Ura}
use base.Logic.{SProp}
use contract.Monad.{Fun}
use contract.Notation as notation
use denote.Triple.Entry.{Args}
use denote.Triple.Clauses.{AtExit}
use types.Logic.{Logic}
use prog.Memory.{Memory}
use prog.Routine.{Routine}
use Rattle.reader.specs.contracts as reader
use Rattle.reader.specs.Reader.{head_at_lem, stepped}
use Rattle.outcomes.specs.Decided.{Lives, Answer, Contract, Decided}
use Rattle.outcomes.proofs.Law.{same, decided}

abbrev Starts : Contract reader.reader_at.ended
Starts κs a r e = (r.words ≡ a.0) × (r.at ≡ a.1.0)

pub reader_at_outcomes_equal : Decided reader.reader_at.ended Starts
reader_at_outcomes_equal = decided λ _ _ _ _ p q. (λ i. record { words = same p.0 q.0 i; at = same p.1 q.1 i }, tt)

abbrev Steps : Contract reader.step.ended
Steps κs a r e = (r ≡ head_at_lem a.0.now.words.now a.0.now.at) × (e.0.now ≡ stepped a.0.now)

pub step_outcomes_equal : Decided reader.step.ended Steps
step_outcomes_equal = decided λ _ _ _ _ p q. search same

module _ {M : Type 1} {𝓤 : Ura M} (𝓛 : Logic 𝓤) (mem : Memory → SProp 𝓤) (run : Routine → Fun 𝓤) where
  open notation.connectives 𝓤 use {⌜◌⌝}

  starts_clause : (κs : Lives reader.reader_at.ended) (a : Args reader.reader_at.ended.signature κs) (r : Answer reader.reader_at.ended κs)
      (e : AtExit reader.reader_at.ended κs)
      → (reader.reader_at.clauses 𝓛 mem run κs a).ensures tt r e ≡ ⌜ Starts κs a r e ⌝
  starts_clause κs a r e = refl

  steps_clause : (κs : Lives reader.step.ended) (a : Args reader.step.ended.signature κs) (r : Answer reader.step.ended κs)
      (e : AtExit reader.step.ended κs)
      → (reader.step.clauses 𝓛 mem run κs a).ensures tt r e ≡ ⌜ Steps κs a r e ⌝
  steps_clause κs a r e = refl
