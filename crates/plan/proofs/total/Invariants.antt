-- What is summed and what the pairs ahead are charged make up the cost.
use Rattle.plan.specs.Plan.{charge, cost}
use Rattle.table.proofs.Tables.{sum_ahead}
use Rattle.table.specs.Words.{table_of, Ahead}
use Prim.Native.Nat.{◌+◌, ◌-◌, ◌*◌, ◌≤◌}
use mathlib.Core.Path.{◌≡◌}
use Rattle.plan.proofs.total.Given as goal

abbrev pub invariant-loop : goal.invariant-loop
invariant-loop l =
    (l.counter ≤ l.p)
    × (l.p ≤ 256)
    × Ahead l.words (l.p - l.counter) l.at
    × (l.sum + sum_ahead l.words (charge l.plan) (l.p - l.counter) l.at ≡ cost (table_of l.words) l.plan)
    × (l.sum ≤ 1000000 * l.counter)
