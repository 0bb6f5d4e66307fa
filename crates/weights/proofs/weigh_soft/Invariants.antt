-- What the pairs ahead have is still owed.
use Rattle.clause.proofs.Turns.{soft_ahead}
use Rattle.clause.specs.List.{soft_part}
use Rattle.clause.specs.Clause.{weights}
use Rattle.clause.specs.declared.Hard.TheVariants.{Standard}
use Rattle.table.specs.Words.{table_of, Ahead}
use Rattle.lists.specs.Stores.{Owes}
use Prim.Native.Nat.{◌-◌, ◌≤◌}
use Rattle.weights.proofs.weigh_soft.Given as goal

abbrev pub invariant-loop : goal.invariant-loop
invariant-loop l =
    (l.counter ≤ l.p)
    × (l.p ≤ 256)
    × Ahead l.words (l.p - l.counter) l.at
    × Owes l.initial.out l.from (weights (soft_part Standard l.side (table_of l.words))) l.out l.cursor (weights (soft_ahead Standard l.side l.words l.p l.counter l.at))
