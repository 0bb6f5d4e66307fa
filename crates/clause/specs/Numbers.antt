-- The numbers of the variables: box by box, values rising, from 1; then the thresholds of the regular part; then one c_k a pair on the support side.
use Rattle.std.specs.Prelude.{ℕ, ◌+◌, ◌-◌, pred, List, map, length}
use Rattle.lists.specs.Lists.{sum_of, before}
use Rattle.table.specs.Table.{Table}
use Rattle.clause.specs.declared.Hard.{Hard}
use Rattle.clause.specs.declared.Hard.TheVariants.{Standard, Regular}
use Rattle.clause.specs.declared.Side.{Side}
use Rattle.clause.specs.declared.Side.TheVariants.{Direct, Support, First, Literals, Score}

-- the variable of value j, where `base` variables stand before the box's
abbrev pub value_from : ℕ → ℕ → ℕ
value_from base j = base + j

-- the variable of "at least j", for j from 2 on
abbrev pub step_from : ℕ → ℕ → ℕ
step_from base j = base + (j - 1)

-- all value variables
unfoldable pub values : Table → ℕ
values t = sum_of (λ m. m) t.sizes

-- how many thresholds each box has: one less than its values
abbrev pub steps : Table → List ℕ
steps t = map pred t.sizes

unfoldable pub thresholds : Table → Hard → ℕ
thresholds t Standard = 0
thresholds t Regular = sum_of (λ m. m) (steps t)

unfoldable pub switches : Table → Side → ℕ
switches t Direct = 0
switches t Support = length t.pairs
switches t First = 0
switches t Literals = 0
switches t Score = 0

-- how many variables stand before the values of box b, and before its thresholds
unfoldable pub value_base_lem : Table → ℕ → ℕ
value_base_lem t b = before t.sizes b

unfoldable pub step_base_lem : Table → ℕ → ℕ
step_base_lem t b = values t + before (steps t) b

-- value j of box b
abbrev pub x : Table → ℕ → ℕ → ℕ
x t b = value_from (value_base_lem t b)

-- "at least j" of box b, for j from 2 on
abbrev pub r : Table → ℕ → ℕ → ℕ
r t b = step_from (step_base_lem t b)

-- c_k of the support side
unfoldable pub c : Table → Hard → ℕ → ℕ
c t h k = values t + thresholds t h + k

unfoldable pub variables : Table → Hard → Side → ℕ
variables t h s = values t + thresholds t h + switches t s
