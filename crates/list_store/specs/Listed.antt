-- What a sheet with its list line holds.
use Rattle.std.specs.Prelude.{ℕ, List}

-- the two choices, the words of the table and the entries of the list; or the faulty line
pub data Listed : Type 0 where
  listed : (hard side : ℕ) → (words list : List ℕ) → Listed
  faulty : ℕ → Listed
