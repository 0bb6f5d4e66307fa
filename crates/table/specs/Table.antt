-- The table of document 01 and its words. Boxes, values and pairs count from 1.
use Rattle.std.specs.Prelude.{ℕ, ◌^◌, ◌≤◌, ◌<◌, ◌≡◌, ◌≢◌, Bool, length}
use mathlib.Core.List.{List, ◌∷◌, ◌++◌, flat_map}
use Rattle.lists.specs.Lists.{nth, Each}
use Rattle.lists.specs.Bits.{in_mask}

-- one mask for each value of the first box, rising: bit j-1 of it says that value j of the second box is allowed
pub record Pair : Type 0 where
  pub first : ℕ
  pub second : ℕ
  pub weight : ℕ
  pub masks : List ℕ

pub record Table : Type 0 where
  pub sizes : List ℕ
  pub pairs : List Pair

abbrev pub boxes : Table → ℕ
boxes t = length t.sizes

-- the number of values of box b
abbrev pub size : Table → ℕ → ℕ
size t b = nth t.sizes b

-- value i of the first box and value j of the second are allowed together
unfoldable pub allowed : Pair → ℕ → ℕ → Bool
unfolding in_mask
allowed p i j = in_mask (nth p.masks i) j

-- ---- the words

abbrev pub pair_words : Pair → List ℕ
pair_words p = p.first ∷ p.second ∷ p.weight ∷ p.masks

-- box count, pair count, the domain sizes, then pair by pair
unfoldable pub words_of : Table → List ℕ
unfolding flat_map
words_of t = boxes t ∷ length t.pairs ∷ (t.sizes ++ flat_map pair_words t.pairs)

-- ---- what the document asks of a table

abbrev pub In : ℕ → ℕ → ℕ → Type 0
In low high v = (low ≤ v) × (v ≤ high)

pub record SoundPair (t : Table) (p : Pair) : Type 0 where
  pub first : In 1 (boxes t) p.first
  pub second : In 1 (boxes t) p.second
  pub differ : p.second ≢ p.first
  pub weight : In 1 1000000 p.weight
  pub rows : length p.masks ≡ size t p.first
  pub masks : Each (λ mask. mask < 2 ^ size t p.second) p.masks

pub record Sound (t : Table) : Type 0 where
  pub boxes : In 1 64 (length t.sizes)
  pub count : length t.pairs ≤ 256
  pub sizes : Each (In 1 16) t.sizes
  pub pairs : Each (SoundPair t) t.pairs
