-- The plan of a list, and the list of a plan.
use Rattle.std.specs.Prelude.{ℕ, pred, Bool, cond, replicate, eqb, leb}
use mathlib.Core.List.{List, [], ◌++◌, map, flat_map}
use Rattle.lists.specs.Lists.{count, nth}
use Rattle.table.specs.Table.{Table, boxes, size}
use Rattle.clause.specs.declared.Hard.{Hard}
use Rattle.clause.specs.declared.Hard.TheVariants.{Standard, Regular}
use Rattle.clause.specs.declared.Side.{Side}
use Rattle.clause.specs.Numbers.{switches}
use Rattle.list_boxes.specs.Lists.{value_of}

-- the value of each box
unfoldable pub plan_of : Table → List ℕ → List ℕ
plan_of t l = map (value_of t l) (count 1 (boxes t))

-- ---- the list of a plan

abbrev pub bit : Bool → ℕ
bit o = cond o 1 0

-- a box of m values that holds a: x_a is 1 and no other
unfoldable pub value_row : ℕ → ℕ → List ℕ
value_row m a = map (λ j. bit (eqb j a)) (count 1 m)

-- its thresholds r_2 .. r_m: those up to a are 1
unfoldable pub step_row : ℕ → ℕ → List ℕ
step_row m a = map (λ j. bit (leb j a)) (count 2 (pred m))

unfoldable pub value_bits : Table → List ℕ → List ℕ
unfolding flat_map
value_bits t plan = flat_map (λ b. value_row (size t b) (nth plan b)) (count 1 (boxes t))

unfoldable pub step_bits : Hard → Table → List ℕ → List ℕ
unfolding flat_map
step_bits Standard t plan = []
step_bits Regular t plan = flat_map (λ b. step_row (size t b) (nth plan b)) (count 1 (boxes t))

-- values, thresholds, and every c_k 0
unfoldable pub made : Hard → Side → Table → List ℕ → List ℕ
made h s t plan = value_bits t plan ++ (step_bits h t plan ++ replicate (switches t s) 0)
