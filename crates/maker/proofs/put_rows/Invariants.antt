-- The rows of the boxes ahead are still owed.
use Rattle.maker.proofs.Rows.{rows_from}
use Rattle.maker.specs.Rows.{rows_of}
use Rattle.table.specs.Words.{table_of}
use Rattle.lists.specs.Stores.{Owes}
use Prim.Native.Nat.{◌+◌, ◌≤◌}
use Rattle.maker.proofs.put_rows.Given as goal

abbrev pub invariant-loop-b : goal.invariant-loop-b
invariant-loop-b l =
    (1 ≤ l.b)
    × (l.b ≤ l.n + 1)
    × Owes l.initial.list l.from (rows_of l.part (table_of l.words) l.plan) l.list l.at (rows_from l.part (table_of l.words) l.plan l.n l.b)
