-- What the writers write, where the definitions of a box have no name for it.
use Rattle.std.specs.Prelude.{ℕ, suc, ◌-◌}
use mathlib.Core.List.{List, map, flat_map}
use Rattle.lists.specs.Lists.{count}
use Rattle.clause.specs.Clause.{Lit, plus, minus, Clause}
use Rattle.clause.specs.Hard.{not_both}
use Rattle.standard.specs.declared.Literal.{Literal}
use Rattle.standard.specs.declared.Literal.TheVariants.{Plus, Minus}

-- a literal of the code, and the number of its variable
abbrev pub lit_of : Literal → Lit
lit_of (Plus v) = plus v
lit_of (Minus v) = minus v

abbrev pub number_of : Literal → ℕ
number_of (Plus v) = v
number_of (Minus v) = v

-- for each k from j + 1 to m: not x_j or not x_k
abbrev pub apart_from : (ℕ → ℕ) → ℕ → ℕ → List Clause
apart_from x m j = map (not_both x j) (count (suc j) (m - j))

-- for each j from 1 to m
abbrev pub apart : (ℕ → ℕ) → ℕ → List Clause
apart x m = flat_map (apart_from x m) (count 1 m)
