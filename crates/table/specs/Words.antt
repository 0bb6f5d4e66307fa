-- What a list of words means, and the first fault that reading it left to right meets.
-- Everything goes by position in the whole list, as the code does; a word is `get_or ws at 0`.
use Rattle.std.specs.Prelude.{ℕ, zero, suc, ◌+◌, ◌/◌, ◌^◌, ◌≤◌, ◌<◌, ◌≡◌, ◌≢◌, not, List, [], ◌∷◌, length, get_or, take, drop, ltb, leb, eqb}
use Rattle.std.proofs.Math.Option.{Option, none, some}
use Rattle.lists.specs.Firsts.{◌then◌, unless, first_of}
use Rattle.refusal.specs.declared.Refusal.{Refusal}
use Rattle.refusal.specs.declared.Refusal.TheVariants.{Missing, Extra, Count, Domain, Partner, Weight, Mask}
use Rattle.table.specs.Table.{Pair, Table, In}

-- ---- where things stand

-- n and p
abbrev pub box_count : List ℕ → ℕ
box_count ws = get_or ws 0 0

abbrev pub pair_count : List ℕ → ℕ
pair_count ws = get_or ws 1 0

-- the domain size of box b
abbrev pub size_at : List ℕ → ℕ → ℕ
size_at ws b = get_or ws (b + 1) 0

-- the word after the pair at a word: first, second, weight and a mask for each value of the first
unfoldable pub pair_next : List ℕ → ℕ → ℕ
pair_next ws at = at + 3 + size_at ws (get_or ws at 0)

-- the word after the k pairs from a word on
unfoldable pub pairs_end : List ℕ → ℕ → ℕ → ℕ
pairs_end ws zero at = at
pairs_end ws (suc k) at = pairs_end ws k (pair_next ws at)

-- ---- what the words mean, faults aside

unfoldable pub pair_at : List ℕ → ℕ → Pair
pair_at ws at =
    record {
      first = get_or ws at 0;
      second = get_or ws (at + 1) 0;
      weight = get_or ws (at + 2) 0;
      masks = take (size_at ws (get_or ws at 0)) (drop (at + 3) ws);
    }

unfoldable pub pairs_at : List ℕ → ℕ → ℕ → List Pair
pairs_at ws zero at = []
pairs_at ws (suc k) at = pair_at ws at ∷ pairs_at ws k (pair_next ws at)

unfoldable pub table_of : List ℕ → Table
table_of ws = record { sizes = take (box_count ws) (drop 2 ws); pairs = pairs_at ws (pair_count ws) (box_count ws + 2) }

-- ---- the first fault

-- the word at `at` is there and lies in low..high
unfoldable pub range_fault : List ℕ → ℕ → ℕ → ℕ → Refusal → Option Refusal
range_fault ws at low high out =
    unless (ltb at (length ws)) (Missing at) then unless (leb low (get_or ws at 0)) out then unless (leb (get_or ws at 0) high) out

-- the word at `at` is there and has no bit past m values
unfoldable pub mask_fault : List ℕ → ℕ → ℕ → Option Refusal
mask_fault ws m at = unless (ltb at (length ws)) (Missing at) then unless (eqb (get_or ws at 0 / 2 ^ m) 0) (Mask at)

abbrev pub size_fault : List ℕ → ℕ → Option Refusal
size_fault ws at = range_fault ws at 1 16 (Domain at)

abbrev pub sizes_fault : List ℕ → ℕ → ℕ → Option Refusal
sizes_fault ws k at = first_of (size_fault ws) (λ a. a + 1) k at

abbrev pub masks_fault : List ℕ → ℕ → ℕ → ℕ → Option Refusal
masks_fault ws m k at = first_of (mask_fault ws m) (λ a. a + 1) k at

-- the two boxes of the pair at `at` lie in 1..n and differ
unfoldable pub partners_fault : List ℕ → ℕ → ℕ → Option Refusal
partners_fault ws n at =
    range_fault ws at 1 n (Partner at)
    then range_fault ws (at + 1) 1 n (Partner (at + 1))
    then unless (not (eqb (get_or ws (at + 1) 0) (get_or ws at 0))) (Partner (at + 1))

-- the masks of the pair at `at`: one for each value of the first box, of the second box's values
abbrev pub rows_fault : List ℕ → ℕ → Option Refusal
rows_fault ws at = masks_fault ws (size_at ws (get_or ws (at + 1) 0)) (size_at ws (get_or ws at 0)) (at + 3)

unfoldable pub pair_fault : List ℕ → ℕ → ℕ → Option Refusal
pair_fault ws n at =
    partners_fault ws n at
    then range_fault ws (at + 2) 1 1000000 (Weight (at + 2))
    then rows_fault ws at

abbrev pub pairs_fault : List ℕ → ℕ → ℕ → ℕ → Option Refusal
pairs_fault ws n k at = first_of (pair_fault ws n) (pair_next ws) k at

-- past the two counts, which are n and p: the sizes, the pairs, and nothing after them
unfoldable pub body_fault : List ℕ → ℕ → ℕ → Option Refusal
body_fault ws n p =
    sizes_fault ws n 2
    then pairs_fault ws n p (n + 2)
    then unless (leb (length ws) (pairs_end ws p (n + 2))) (Extra (pairs_end ws p (n + 2)))

unfoldable pub first_fault_lem : List ℕ → Option Refusal
first_fault_lem ws = range_fault ws 0 1 64 (Count 0) then range_fault ws 1 0 256 (Count 1) then body_fault ws (box_count ws) (pair_count ws)

-- ---- the judgement of a list of words

pub data Outcome : Type 0 where
  refused : Refusal → Outcome
  accepted : Table → Outcome

abbrev pub settled : Option Refusal → Table → Outcome
settled none t = accepted t
settled (some f) t = refused f

unfoldable pub judged : List ℕ → Outcome
judged ws = settled (first_fault_lem ws) (table_of ws)

-- the words are a table
abbrev pub Accepted : List ℕ → Type 0
Accepted ws = judged ws ≡ accepted (table_of ws)

-- ---- what stands at a cursor in an accepted table: what the building blocks that read it ask for

-- box b is one of the boxes, and its domain size one of the words
pub record BoxStands (ws : List ℕ) (b : ℕ) : Type 0 where
  pub number : In 1 (box_count ws) b
  pub inside : b + 1 < length ws
  pub values : In 1 16 (size_at ws b)

-- a pair of the table begins at word `at`
pub record PairStands (ws : List ℕ) (at : ℕ) : Type 0 where
  pub first : BoxStands ws (get_or ws at 0)
  pub second : BoxStands ws (get_or ws (at + 1) 0)
  pub differ : get_or ws (at + 1) 0 ≢ get_or ws at 0
  pub weight : In 1 1000000 (get_or ws (at + 2) 0)
  pub masks : (i : ℕ) → i < size_at ws (get_or ws at 0) → get_or ws (at + 3 + i) 0 < 2 ^ size_at ws (get_or ws (at + 1) 0)
  pub ends : at + 3 + size_at ws (get_or ws at 0) ≤ length ws

-- the last k pairs of the table begin at word `at`
abbrev pub Ahead : List ℕ → ℕ → ℕ → Type 0
Ahead ws zero at = Unit {0}
Ahead ws (suc k) at = PairStands ws at × Ahead ws k (pair_next ws at)
