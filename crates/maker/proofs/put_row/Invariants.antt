-- What is left of the row is still owed.
use Rattle.maker.proofs.Rows.{row_from}
use Rattle.maker.specs.Rows.{row_of}
use Rattle.lists.specs.Stores.{Owes}
use Prim.Native.Nat.{◌+◌, ◌≤◌}
use Rattle.maker.proofs.put_row.Given as goal

abbrev pub invariant-loop-j : goal.invariant-loop-j
invariant-loop-j l = (l.j ≤ l.m + 2) × (l.at ≤ l.from + l.j) × Owes l.initial.list l.from (row_of l.part l.m l.a) l.list l.at (row_from l.part l.m l.a l.j)
