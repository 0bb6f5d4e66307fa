-- A box's hard clauses as a list is judged: by counting, and by comparing the thresholds with the value found.
use Rattle.std.specs.Prelude.{ℕ, pred, Bool, true, cond, ◌&&◌, eqb, leb}
use Rattle.std.specs.Bool.{beq}
use Rattle.lists.specs.Lists.{count, all, sum_of}
use Rattle.clause.specs.declared.Hard.{Hard}
use Rattle.clause.specs.declared.Hard.TheVariants.{Standard, Regular}
use Rattle.clause.specs.Clause.{Reading}
use Rattle.clause.specs.Numbers.{value_from, step_from}
use Rattle.list_boxes.specs.Lists.{held}

-- how many of a box's m variables are true
abbrev pub true_count_lem : Reading → (ℕ → ℕ) → ℕ → ℕ
true_count_lem ν x m = sum_of (λ j. cond (ν (x j)) 1 0) (count 1 m)

-- on the regular part every r_j, j = 2..m, is true exactly for j up to a
abbrev pub steps_say_lem : Hard → Reading → (s m a : ℕ) → Bool
steps_say_lem Standard ν s m a = true
steps_say_lem Regular ν s m a = all (λ j. beq (ν (step_from s j)) (leb j a)) (count 2 (pred m))

-- a box with m values, whose values' variables come after the first v ones and its thresholds' after the first s
unfoldable pub counted_ok_lem : Hard → Reading → (v s m : ℕ) → Bool
counted_ok_lem h ν v s m = eqb (true_count_lem ν (value_from v) m) 1 && steps_say_lem h ν s m (held ν (value_from v) 1 m)
