-- What is counted and the variables ahead that are 1 make up the count.
use Rattle.list_boxes.proofs.Loops.{true_from}
use Rattle.list_boxes.specs.Counted.{true_count_lem}
use Rattle.clause.specs.Clause.{reads}
use Rattle.clause.specs.Numbers.{value_from}
use Prim.Native.Nat.{◌+◌, ◌≤◌, ◌<◌}
use mathlib.Core.Path.{◌≡◌}
use Rattle.list_boxes.proofs.true_count.Given as goal

abbrev pub invariant-loop-j : goal.invariant-loop-j
invariant-loop-j l =
    (1 ≤ l.j)
    × (l.j ≤ l.m + 1)
    × (l.sum < l.j)
    × (l.sum + true_from (reads l.list) (value_from l.base) l.m l.j ≡ true_count_lem (reads l.list) (value_from l.base) l.m)
