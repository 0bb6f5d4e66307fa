-- What reading finds at a place where a key with a row of 0 and 1 is due: the mask and the index past the line, or nothing, which is a fault.
use Rattle.std.specs.Prelude.{ℕ, zero, suc, ◌+◌, ◌-◌, ◌*◌, Bool, false, ◌&&◌, List, [], ◌∷◌, length, drop, eqb, leb, Some}
use Rattle.scan.specs.Stands.{begins}
use Rattle.scan.specs.Lines.{Line, gate}

-- l begins with m characters 0 or 1 and a line feed
unfoldable pub is_row : ℕ → List ℕ → Bool
is_row zero [] = false
is_row zero (c ∷ l) = eqb c 10
is_row (suc m) [] = false
is_row (suc m) (c ∷ l) = let r = is_row m l in leb 48 c && (leb c 49 && r)

-- the mask whose bits they are, the lowest leftmost
unfoldable pub value_of : ℕ → List ℕ → ℕ
value_of zero l = 0
value_of (suc m) [] = 0
value_of (suc m) (c ∷ l) = value_of m l * 2 + (c - 48)

-- at index i of s: the key, and then a row of m
unfoldable pub row_at : List ℕ → ℕ → List ℕ → ℕ → Line
unfolding gate
row_at s i key m =
    let l = drop (i + length key) s in
    gate (begins key (drop i s)) (gate (is_row m l) (Some (value_of m l, i + length key + m + 1)))
