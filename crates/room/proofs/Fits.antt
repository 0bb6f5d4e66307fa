-- What a judgement of the room says to its caller.
use mathlib.Core.Path.{◌≡◌}
use mathlib.Core.Option.{none}
use Prim.Native.Nat.{ℕ, ◌≤◌}
use lib.Dec.{leb}
use borrow.Author.Tests.{leb-true, le-leb, lt-leb}
use Rattle.lists.specs.Firsts.{unless}
use Rattle.lists.proofs.Firsts.{unless_none, then_none}
use Rattle.refusal.specs.declared.Refusal.TheVariants.{Room}
use Rattle.measure.specs.declared.Lengths.{Lengths}
use Rattle.measure.specs.declared.Scratch.{Scratch}
use Rattle.room.specs.Room.{two_fault, clauses_fault, text_fault}

-- a test of the code, and the same test of the definitions
pub ruleset tests = (le-leb, lt-leb)

-- where neither of two is too short, both hold what they need
two_hold : (a b first second : ℕ) → two_fault a b first second ≡ none
    → (a ≤ first) × (b ≤ second)
unfolding two_fault
two_hold a b first second e =
    let t = then_none (unless (leb a first) (Room a)) _ e in
    (leb-true _ _ (unless_none _ _ t.0), leb-true _ _ (unless_none _ _ t.1))

pub clauses_hold : (n : Lengths) (s : Scratch) (first second literals weights : ℕ) → clauses_fault n s first second literals weights ≡ none
    → (s.first ≤ first) × (s.second ≤ second)
unfolding clauses_fault
clauses_hold n s first second literals weights e = two_hold _ _ first second (then_none (two_fault s.first s.second first second) _ e).0

pub text_holds : (s : Scratch) (long first second text : ℕ) → text_fault s long first second text ≡ none → (s.first ≤ first) × (s.second ≤ second)
unfolding text_fault
text_holds s long first second text e = two_hold _ _ first second (then_none (two_fault s.first s.second first second) _ e).0
