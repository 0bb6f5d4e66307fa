-- What an exported function tells of an answer: a refusal by its code, and nothing in the slots; a success by 0, and its values in the slots.
use Rattle.refusal.specs.declared.Refusal.{Refusal}
use Rattle.std.specs.Prelude.{Result}
use Prim.Native.Nat.{ℕ}
use mathlib.Core.Path.{◌≡◌, refl, sym, ap, ◌∙◌}
use mathlib.Core.List.{List}
use lib.IntN.{ℤ}
use Rattle.refusal.specs.Refusals.{Says, gives}
use Rattle.whole.specs.Verdict.{Verdict}
use Rattle.encoder.specs.Encoded.{encoded_of, Outcomes}
use Rattle.clauses_out.specs.declared.Written.{Written}
use Rattle.wcnf_out.specs.Written as texts
use Rattle.codes.specs.Codes.{code_of, slots_after, Told}

pub told_refused : {s x : Says} {r : ℕ} {old : List ℕ} → s ≡ x → r ≡ code_of x → slots_after x old ≡ old → Told s r old old
told_refused {old = old} says code kept = record { code = code ∙ ap code_of (sym says); slots = sym kept ∙ ap (λ (t : Says). slots_after t old) (sym says) }

pub told_given : {s : Says} {old new : List ℕ} → s ≡ gives new → Told s 0 old new
told_given {s} {old} {new} says = record { code = ap code_of (sym says); slots = ap (λ (t : Says). slots_after t old) (sym says) }

-- the buffers are left as the verdict says, and the answer that goes with them is the verdict's own
pub as_said : {v : Verdict} {a b c a' b' c' : List ℤ} {w w' : List ℕ} {r : Result Written Refusal} → Outcomes v a b c w r a' b' c' w'
    → Outcomes v a b c w (encoded_of v) a' b' c' w'
as_said o =
    record {
      answer = refl;
      first_left = o.first_left;
      second_left = o.second_left;
      literals_left = o.literals_left;
      weights_left = o.weights_left;
    }

pub text_as_said : {v : Verdict} {a b a' b' : List ℤ} {t t' : List ℕ} {r : Result ℕ Refusal} → texts.Outcomes v a b t r a' b' t'
    → texts.Outcomes v a b t (texts.written_of v) a' b' t'
text_as_said o = record { answer = refl; first_left = o.first_left; second_left = o.second_left; text_left_lem = o.text_left_lem }
