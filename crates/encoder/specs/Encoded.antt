-- What the encoder answers and what each lent buffer then holds. Nothing is written before the last judgement.
use Rattle.refusal.specs.declared.Refusal.{Refusal}
use Rattle.std.specs.Prelude.{ℕ, ◌≡◌, List, [], ◌∷◌, length, ℤ, Result, Ok, Err}
use Rattle.refusal.specs.Refusals.{Says, gives, refusal_says}
use Rattle.table.specs.Table.{Table}
use Rattle.table.specs.Words.{Outcome}
use Rattle.clause.specs.declared.Encoding.{Encoding}
use Rattle.asked.specs.Asked.{over}
use Rattle.measure.specs.Measures.{lengths_for, scratch_for}
use Rattle.room.specs.Room.{clauses_fault}
use Rattle.whole.specs.Verdict.{Verdict, no, yes, roomed, scratch_after}
use Rattle.clauses_out.specs.declared.Written.{Written}
use Rattle.clauses_out.specs.Listed.{written_of, literals_with, weights_with}

-- ---- the judgement

abbrev pub judged_room : Encoding → Table → (first second literals : List ℤ) → (weights : List ℕ) → Verdict
judged_room e t first second literals weights =
    roomed (clauses_fault (lengths_for e t) (scratch_for e.side t) (length first) (length second) (length literals) (length weights)) e t

abbrev pub verdict : Result Encoding Refusal → Outcome → (first second literals : List ℤ) → (weights : List ℕ) → Verdict
verdict p o first second literals weights = over p o no (λ e t. judged_room e t first second literals weights)

-- ---- the outcome

abbrev pub encoded_of : Verdict → Result Written Refusal
encoded_of (no f) = Err f
encoded_of (yes e t) = Ok (written_of e t)

-- the literals from the start, and the rest as it was
abbrev pub literals_after : Verdict → List ℤ → List ℤ
literals_after (no f) old = old
literals_after (yes e t) old = literals_with e t old

abbrev pub weights_after : Verdict → List ℕ → List ℕ
weights_after (no f) old = old
weights_after (yes e t) old = weights_with e t old

-- the answer and each lent buffer at exit, by the verdict and what they were
pub record Outcomes (v : Verdict) (first second literals : List ℤ) (weights : List ℕ) (r : Result Written Refusal)
    (first' second' literals' : List ℤ) (weights' : List ℕ) : Type 0 where
  pub answer : r ≡ encoded_of v
  pub first_left : first' ≡ scratch_after v first
  pub second_left : second' ≡ scratch_after v second
  pub literals_left : literals' ≡ literals_after v literals
  pub weights_left : weights' ≡ weights_after v weights

-- success gives the lengths written
abbrev pub encoded_says : Result Written Refusal → Says
encoded_says (Err f) = refusal_says f
encoded_says (Ok w) = gives (w.literals ∷ w.weights ∷ [])
