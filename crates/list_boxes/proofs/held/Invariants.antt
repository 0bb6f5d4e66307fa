-- What the values ahead hold is what all of them hold.
use Rattle.list_boxes.specs.Lists.{held}
use Rattle.clause.specs.Clause.{reads}
use Rattle.clause.specs.Numbers.{value_from}
use Prim.Native.Nat.{◌+◌, ◌-◌, ◌≤◌}
use mathlib.Core.Path.{◌≡◌}
use Rattle.list_boxes.proofs.held.Given as goal

abbrev pub invariant-loop-j : goal.invariant-loop-j
invariant-loop-j l = (1 ≤ l.j) × (l.j ≤ l.m + 1) × (held (reads l.list) (value_from l.base) l.j (l.m + 1 - l.j) ≡ held (reads l.list) (value_from l.base) 1 l.m)
