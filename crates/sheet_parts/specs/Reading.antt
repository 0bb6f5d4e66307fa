-- What reading lines finds from a place on: the words of the lines, one a line, and the index past them; or the words before a faulty line.
use Rattle.std.specs.Prelude.{ℕ, zero, suc, ◌+◌, ◌≤◌, ◌≡◌, List, [], ◌∷◌, ◌++◌, length, Some, None, Result, Ok, Err}
use Rattle.std.proofs.lemmas.List.Edits.{sets}
use Rattle.lists.specs.Lists.{nth, Each}
use Rattle.table.specs.Table.{In}
use Rattle.scan.specs.Lines.{Line, line_at}
use Rattle.row_scan.specs.Rows.{row_at}
use Rattle.sheet.specs.Keys.{values_key, first_key, weight_key, allow_key}
use Rattle.sheet_scan.specs.Found.{second_at}

pub data Got : Type 0 where
  read : List ℕ → ℕ → Got
  fault : List ℕ → Got

abbrev pub words : Got → List ℕ
words (read ws k) = ws
words (fault ws) = ws

-- words that were read before
unfoldable pub after : List ℕ → Got → Got
after ws (read vs k) = read (ws ++ vs) k
after ws (fault vs) = fault (ws ++ vs)

-- and then, from the index past them, what f reads
unfoldable pub next : Got → (ℕ → Got) → Got
next (read ws k) f = after ws (f k)
next (fault ws) f = fault ws

-- a line, and what follows it; what that is may depend on its word
unfoldable pub on_line : Line → (ℕ → ℕ → Got) → Got
on_line (Some (v, k)) f = after (v ∷ []) (f v k)
on_line None f = fault []

unfoldable pub one : Line → Got
one x = on_line x (λ v k. read [] k)

-- n times what f reads
unfoldable pub many : (ℕ → Got) → ℕ → ℕ → Got
many f zero i = read [] i
many f (suc n) i = next (f i) (many f n)

-- ---- the parts of a sheet, at index i of s

-- n lines of domain sizes
abbrev pub size_got : List ℕ → ℕ → Got
size_got s i = one (line_at s i values_key 1 16)

abbrev pub values_at : List ℕ → ℕ → ℕ → Got
values_at s n i = many (size_got s) n i

-- lines of masks of m values
abbrev pub mask_got : List ℕ → ℕ → ℕ → Got
mask_got s m i = one (row_at s i allow_key m)

abbrev pub rows_at : List ℕ → ℕ → ℕ → ℕ → Got
rows_at s m n i = many (mask_got s m) n i

-- a pair among boxes of these sizes: its boxes, its weight, and a mask for each value of the first box
unfoldable pub pair_at : List ℕ → List ℕ → ℕ → Got
pair_at s sizes i =
    on_line (line_at s i first_key 1 (length sizes)) (λ a j.
    on_line (second_at s (length sizes) a j) (λ b k.
    on_line (line_at s k weight_key 1 1000000) (λ w l.
    rows_at s (nth sizes b) (nth sizes a) l)))

abbrev pub pairs_at : List ℕ → List ℕ → ℕ → ℕ → Got
pairs_at s sizes p i = many (pair_at s sizes) p i

-- ---- what a function that reads lines and stores their words answers and leaves

-- where reading goes on, in the text and in the words; or the word whose line is faulty
abbrev pub Step : Type 0
Step = Result (ℕ × ℕ) ℕ

abbrev pub step_of : ℕ → Got → Step
step_of from (read ws k) = Ok (k, from + length ws)
step_of from (fault ws) = Err (from + length ws)

pub record Filed (g : Got) (from : ℕ) (old : List ℕ) (r : Step) (new : List ℕ) : Type 0 where
  pub step : r ≡ step_of from g
  pub list : new ≡ sets old from (words g)

-- domain sizes as the document asks
pub record Sized (sizes : List ℕ) : Type 0 where
  pub few : length sizes ≤ 64
  pub each : Each (In 1 16) sizes
