-- Rows 1 to 7 of document 01's refusals, each as a plain condition on the words: its number and its place.
use Rattle.std.specs.Prelude.{ℕ, ◌+◌, ◌^◌, ◌≤◌, ◌<◌, ◌≡◌, ◌⊎◌, List, length, get_or}
use Rattle.table.specs.Words.{box_count, pair_count, size_at, pairs_end}

-- where the pair that k pairs stand before begins; with k = p, the word past the last one due
abbrev pub starts : List ℕ → ℕ → ℕ
starts ws k = pairs_end ws k (box_count ws + 2)

-- how many words the pair at a word has
abbrev pub pair_length : List ℕ → ℕ → ℕ
pair_length ws at = 3 + size_at ws (get_or ws at 0)

-- a word that is due: the two counts, the sizes, and the words of the pairs
pub data Due (ws : List ℕ) : ℕ → Type 0 where
  count_due : (at : ℕ) → at < 2 → Due ws at
  size_due : (b : ℕ) → 1 ≤ b → b ≤ box_count ws → Due ws (b + 1)
  pair_due : (k i : ℕ) → k < pair_count ws → i < pair_length ws (starts ws k) → Due ws (starts ws k + i)

abbrev pub Outside : ℕ → ℕ → ℕ → Type 0
Outside low high v = (v < low) ⊎ (high < v)

-- Fault ws number place: the row of that number is broken at that place.
pub data Fault (ws : List ℕ) : ℕ → ℕ → Type 0 where
  -- 1: the table ends before a word that is due
  missing : (at : ℕ) → Due ws at → length ws ≤ at → Fault ws 1 at
  -- 2: words follow the last one due
  extra : (at : ℕ) → starts ws (pair_count ws) ≤ at → at < length ws → Fault ws 2 at
  -- 3: n or p out of range
  boxes_out : 0 < length ws → Outside 1 64 (box_count ws) → Fault ws 3 0
  pairs_out : 1 < length ws → Outside 0 256 (pair_count ws) → Fault ws 3 1
  -- 4: domain size out of range
  size_out : (b : ℕ) → 1 ≤ b → b ≤ box_count ws → b + 1 < length ws → Outside 1 16 (size_at ws b) → Fault ws 4 (b + 1)
  -- 5: a box of a pair out of range, or the second equals the first
  first_out : (k : ℕ) → k < pair_count ws → starts ws k < length ws → Outside 1 (box_count ws) (get_or ws (starts ws k) 0) → Fault ws 5 (starts ws k)
  second_out : (k : ℕ) → k < pair_count ws → starts ws k + 1 < length ws
      → Outside 1 (box_count ws) (get_or ws (starts ws k + 1) 0) ⊎ (get_or ws (starts ws k + 1) 0 ≡ get_or ws (starts ws k) 0)
      → Fault ws 5 (starts ws k + 1)
  -- 6: weight out of range
  weight_out : (k : ℕ) → k < pair_count ws → starts ws k + 2 < length ws → Outside 1 1000000 (get_or ws (starts ws k + 2) 0) → Fault ws 6 (starts ws k + 2)
  -- 7: a mask has a bit past the second box's domain
  mask_out : (k i : ℕ) → k < pair_count ws → i < size_at ws (get_or ws (starts ws k) 0) → starts ws k + 3 + i < length ws
      → 2 ^ size_at ws (get_or ws (starts ws k + 1) 0) ≤ get_or ws (starts ws k + 3 + i) 0
      → Fault ws 7 (starts ws k + 3 + i)

-- no row is broken anywhere
abbrev pub Faultless : List ℕ → Type 0
Faultless ws = (number place : ℕ) → Fault ws number place → ⊥

-- the fault that reading the words left to right meets first
pub record FirstMet (ws : List ℕ) (number place : ℕ) : Type 0 where
  pub there : Fault ws number place
  pub before : (other earlier : ℕ) → earlier < place → Fault ws other earlier → ⊥
