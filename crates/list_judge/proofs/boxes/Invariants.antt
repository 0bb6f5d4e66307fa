-- What the boxes ahead give is what all of them give.
use Rattle.list_judge.specs.Faults.{box_fault, boxes_fault}
use Rattle.table.specs.Words.{table_of}
use Rattle.lists.specs.Firsts.{first_of}
use Prim.Native.Nat.{◌+◌, ◌-◌, ◌≤◌}
use mathlib.Core.Path.{◌≡◌}
use Rattle.list_judge.proofs.boxes.Given as goal

abbrev pub invariant-loop-b : goal.invariant-loop-b
invariant-loop-b l =
    (1 ≤ l.b)
    × (l.b ≤ l.n + 1)
    × (first_of (box_fault l.hard (table_of l.words) l.list) (λ k. k + 1) (l.n + 1 - l.b) l.b ≡ boxes_fault l.hard (table_of l.words) l.list)
