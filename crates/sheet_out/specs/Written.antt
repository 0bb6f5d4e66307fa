-- What writing a sheet answers and leaves: 8 for the choices, the table's 1 to 7, 9 where the text is too short; else the sheet.
use Rattle.std.specs.Prelude.{ℕ, Bool, true, false, List, [], ◌∷◌, length, leb, Result, Ok, Err}
use Rattle.refusal.specs.declared.Refusal.{Refusal}
use Rattle.refusal.specs.declared.Refusal.TheVariants.{Room}
use Rattle.refusal.specs.Refusals.{Says, gives, refusal_says}
use Rattle.table.specs.Table.{Table}
use Rattle.table.specs.Words.{Outcome, judged}
use Rattle.clause.specs.declared.Encoding.{Encoding}
use Rattle.clause.specs.Encodings.{picked_of}
use Rattle.asked.specs.Asked.{over}
use Rattle.sheet.specs.Sheet.{sheet_text}
use Rattle.sheet.specs.Room.{filled}

-- the sheet, or the refusal of the choices and the words
pub data Sheet : Type 0 where
  text : List ℕ → Sheet
  none : Refusal → Sheet

abbrev pub of_table : Encoding → Table → Sheet
of_table e t = text (sheet_text e.hard e.side t)

abbrev pub of_choices : Result Encoding Refusal → Outcome → Sheet
of_choices p o = over p o none of_table

-- the sheet of words with a hard part's and a side's number
unfoldable pub sheet_of : List ℕ → ℕ → ℕ → Sheet
sheet_of ws hard side = of_choices (picked_of hard side) (judged ws)

-- ---- for a lent text of some length

abbrev pub fits : Bool → ℕ → Result ℕ Refusal
fits true n = Ok n
fits false n = Err (Room n)

abbrev pub written_of : Sheet → ℕ → Result ℕ Refusal
written_of (none f) long = Err f
written_of (text s) long = fits (leb (length s) long) (length s)

abbrev pub text_left : Sheet → List ℕ → List ℕ
text_left (none f) old = old
text_left (text s) old = filled old s

-- success gives the length written
abbrev pub written_says : Result ℕ Refusal → Says
written_says (Err f) = refusal_says f
written_says (Ok n) = gives (n ∷ [])
