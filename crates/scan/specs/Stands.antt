-- What it is that a text stands in a list of bytes at a place.
use Rattle.std.specs.Prelude.{ℕ, ◌+◌, Bool, true, false, ◌&&◌, ◌≡◌, List, [], ◌∷◌, ◌++◌, length, drop, eqb}

-- t stands in s from index i on, and k is the index past it
pub record Stands (s : List ℕ) (i : ℕ) (t : List ℕ) (k : ℕ) : Type 0 where
  pub next : k ≡ i + length t
  pub there : drop i s ≡ t ++ drop k s

-- l begins with t
unfoldable pub begins : List ℕ → List ℕ → Bool
begins [] l = true
begins (x ∷ t) [] = false
begins (x ∷ t) (y ∷ l) = let b = begins t l in eqb y x && b
