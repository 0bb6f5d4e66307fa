-- A whole sheet: its two choices and its words, or the number, from 1, of its first faulty line. What reading it answers and leaves.
use Rattle.std.specs.Prelude.{ℕ, ◌+◌, Bool, true, false, cond, List, [], ◌∷◌, ◌++◌, length, leb, Some, None, Result, Ok, Err}
use Rattle.refusal.specs.declared.Refusal.TheVariants.{Room}
use Rattle.refusal.specs.declared.Refusal.{Refusal}
use Rattle.refusal.specs.Refusals.{Says, gives, refusal_says}
use Rattle.scan.specs.Lines.{Line, line_at}
use Rattle.sheet.specs.Keys.{boxes_key, pairs_key}
use Rattle.sheet.specs.Room.{filled}
use Rattle.sheet_scan.specs.Found.{hard_at, side_at}
use Rattle.sheet_parts.specs.Reading.{Got, read, fault, values_at, pairs_at}
use Rattle.sheet_in.specs.declared.ReadSheet.{ReadSheet}

-- the hard part's number, the side's, and the words of the table; or the faulty line
pub data Parsed : Type 0 where
  sheet : ℕ → ℕ → List ℕ → Parsed
  faulty : ℕ → Parsed

-- what follows line l, if that is found
unfoldable pub on_word : Line → ℕ → (ℕ → ℕ → Parsed) → Parsed
on_word (Some (v, k)) l f = f v k
on_word None l f = faulty l

-- after the last pair nothing stands; the last pair's last line is line n + 4 and as many more as the pairs have words
unfoldable pub closed : ℕ → ℕ → ℕ → ℕ → List ℕ → Got → Parsed
closed long h d p sizes (read ws k) = cond (leb long k) (sheet h d (length sizes ∷ p ∷ (sizes ++ ws))) (faulty (length sizes + 5 + length ws))
closed long h d p sizes (fault ws) = faulty (length sizes + 5 + length ws)

-- after the sizes, at index i: the pairs
unfoldable pub rest_at : List ℕ → ℕ → ℕ → List ℕ → ℕ → Parsed
rest_at s h d sizes i = on_word (line_at s i pairs_key 0 256) (length sizes + 4) (λ p k. closed (length s) h d p sizes (pairs_at s sizes p k))

unfoldable pub on_sizes : List ℕ → ℕ → ℕ → Got → Parsed
on_sizes s h d (read sizes k) = rest_at s h d sizes k
on_sizes s h d (fault sizes) = faulty (length sizes + 4)

unfoldable pub parsed : List ℕ → Parsed
parsed s =
    on_word (hard_at s 0) 1 (λ h i.
    on_word (side_at s i) 2 (λ d j.
    on_word (line_at s j boxes_key 1 64) 3 (λ n k.
    on_sizes s h d (values_at s n k))))

-- ---- for a lent table of some length

-- the two choices, and how many words the table has
abbrev pub sheet_given : (hard side words : ℕ) → Result ReadSheet Refusal
sheet_given h d n = Ok (record { hard = h; side = d; words = n })

abbrev pub fits : Bool → ℕ → ℕ → ℕ → Result ReadSheet Refusal
fits true h d n = sheet_given h d n
fits false h d n = Err (Room n)

abbrev pub read_of : Parsed → ℕ → Result ReadSheet Refusal
read_of (faulty l) long = Err (Refusal.Line l)
read_of (sheet h d ws) long = fits (leb (length ws) long) h d (length ws)

abbrev pub table_left : Parsed → List ℕ → List ℕ
table_left (faulty l) old = old
table_left (sheet h d ws) old = filled old ws

-- success gives the two choices and the number of words
abbrev pub read_says : Result ReadSheet Refusal → Says
read_says (Err f) = refusal_says f
read_says (Ok r) = gives (r.hard ∷ r.side ∷ r.words ∷ [])
