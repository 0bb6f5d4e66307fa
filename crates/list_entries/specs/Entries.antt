-- The entries that the characters of a list line stand for.
use Rattle.std.specs.Prelude.{ℕ, cond, List, map, eqb}

-- the entry that a character stands for
abbrev pub entry_of_lem : ℕ → ℕ
entry_of_lem c = cond (eqb c 49) 1 0

unfoldable pub entries_of : List ℕ → List ℕ
entries_of characters = map entry_of_lem characters
