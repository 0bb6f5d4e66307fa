-- The two kinds of line, as they are written: a key with a number, and a key with a row of 0 and 1.
use Rattle.std.specs.Prelude.{ℕ, zero, suc, ◌+◌, ◌/◌, ◌%◌, List, [], ◌∷◌, ◌++◌}
use Rattle.lists.specs.Decimal.{digits}

-- the key, the number in decimal and a line feed
unfoldable pub line_of : List ℕ → ℕ → List ℕ
line_of key n = key ++ (digits n ++ (10 ∷ []))

-- a character 0 or 1 for each of m values, the lowest bit of the mask, which is value 1's, leftmost
unfoldable pub bits_of : ℕ → ℕ → List ℕ
bits_of zero mask = []
bits_of (suc m) mask = (48 + mask % 2) ∷ bits_of m (mask / 2)

-- the key, m characters and a line feed
unfoldable pub row_of : List ℕ → ℕ → ℕ → List ℕ
row_of key m mask = key ++ (bits_of m mask ++ (10 ∷ []))
