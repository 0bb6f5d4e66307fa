-- What writing WCNF text answers and leaves: 8, then 1 to 7, then 9 for the first scratch, the second, the text; else the text.
use Rattle.refusal.specs.declared.Refusal.{Refusal}
use Rattle.std.specs.Prelude.{ℕ, ◌≡◌, List, [], ◌∷◌, length, ℤ, Result, Ok, Err}
use Rattle.std.proofs.lemmas.List.Edits.{sets}
use Rattle.refusal.specs.Refusals.{Says, gives, refusal_says}
use Rattle.table.specs.Table.{Table}
use Rattle.table.specs.Words.{Outcome}
use Rattle.clause.specs.declared.Encoding.{Encoding}
use Rattle.asked.specs.Asked.{over}
use Rattle.measure.specs.Measures.{scratch_for}
use Rattle.room.specs.Room.{text_fault}
use Rattle.whole.specs.Verdict.{Verdict, no, yes, roomed, scratch_after}
use Rattle.wcnf_text.specs.Text.{text_of}

abbrev pub judged_room : Encoding → Table → (first second text : ℕ) → Verdict
judged_room e t first second text = roomed (text_fault (scratch_for e.side t) (length (text_of e t)) first second text) e t

abbrev pub verdict : Result Encoding Refusal → Outcome → (first second text : ℕ) → Verdict
verdict p o first second text = over p o no (λ e t. judged_room e t first second text)

-- ---- the outcome

abbrev pub written_of : Verdict → Result ℕ Refusal
written_of (no f) = Err f
written_of (yes e t) = Ok (length (text_of e t))

-- the text from the start, and the rest as it was
abbrev pub text_after : Verdict → List ℕ → List ℕ
text_after (no f) old = old
text_after (yes e t) old = sets old 0 (text_of e t)

-- the answer and each lent buffer at exit, by the verdict and what they were; scratch as the clause list leaves it
pub record Outcomes (v : Verdict) (first second : List ℤ) (text : List ℕ) (r : Result ℕ Refusal) (first' second' : List ℤ) (text' : List ℕ) : Type 0 where
  pub answer : r ≡ written_of v
  pub first_left : first' ≡ scratch_after v first
  pub second_left : second' ≡ scratch_after v second
  pub text_left_lem : text' ≡ text_after v text

-- success gives the length written
abbrev pub written_says : Result ℕ Refusal → Says
written_says (Err f) = refusal_says f
written_says (Ok n) = gives (n ∷ [])
