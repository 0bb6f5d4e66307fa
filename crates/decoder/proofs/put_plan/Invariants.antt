-- The values of the boxes ahead are still owed.
use Rattle.decoder.specs.Lists.{plan_of}
use Rattle.list_boxes.specs.Lists.{value_of}
use Rattle.table.specs.Words.{table_of}
use Rattle.lists.specs.Lists.{count}
use Rattle.lists.specs.Stores.{Owes}
use Prim.Native.Nat.{◌+◌, ◌-◌, ◌≤◌, ◌<◌}
use mathlib.Core.List.{map}
use Rattle.decoder.proofs.put_plan.Given as goal

abbrev pub invariant-loop-b : goal.invariant-loop-b
invariant-loop-b l =
    (1 ≤ l.b)
    × (l.b ≤ l.n + 1)
    × (l.at < l.b)
    × Owes l.initial.plan 0 (plan_of (table_of l.words) l.list) l.plan l.at (map (value_of (table_of l.words) l.list) (count l.b (l.n + 1 - l.b)))
