-- What is summed and the weights of the pairs ahead make up the top.
use Rattle.totals.proofs.Counting.{weight_of}
use Rattle.clause.specs.Lengths.{top}
use Rattle.table.proofs.Tables.{sum_ahead}
use Rattle.table.specs.Words.{table_of, Ahead}
use Prim.Native.Nat.{◌+◌, ◌-◌, ◌*◌, ◌≤◌}
use mathlib.Core.Path.{◌≡◌}
use Rattle.totals.proofs.top_of.Given as goal

abbrev pub invariant-loop : goal.invariant-loop
invariant-loop l =
    Ahead l.words (l.fn.counts.pairs - l.counter) l.at
    × (l.sum + sum_ahead l.words weight_of (l.fn.counts.pairs - l.counter) l.at ≡ top (table_of l.words))
    × (l.sum ≤ 1 + 1000000 * l.counter)
