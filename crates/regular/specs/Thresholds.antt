-- What the writers write, where the definition of a regular box has no name for it.
use Rattle.std.specs.Prelude.{ℕ, ◌-◌}
use mathlib.Core.List.{List, map, flat_map}
use Rattle.lists.specs.Lists.{count}
use Rattle.clause.specs.Clause.{Clause}
use Rattle.clause.specs.Hard.{chain_at, between}

-- for each j from 3 to m: not r_j or r_(j-1)
abbrev pub chain : (ℕ → ℕ) → ℕ → List Clause
chain r m = map (chain_at r) (count 3 (m - 2))

-- the values from 2 to m - 1
abbrev pub all_between : (ℕ → ℕ) → (ℕ → ℕ) → ℕ → List Clause
all_between x r m = flat_map (between x r) (count 2 (m - 2))
