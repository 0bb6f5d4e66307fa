-- What is counted and what the pairs ahead come to make up the soft part.
use Rattle.totals.proofs.Counting.{Makes}
use Rattle.clause.proofs.Turns.{soft_ahead}
use Rattle.clause.specs.List.{soft_part}
use Rattle.clause.specs.Clause.{bare}
use Rattle.clause.specs.declared.Hard.TheVariants.{Standard}
use Rattle.table.specs.Words.{table_of, Ahead}
use Prim.Native.Nat.{◌-◌, ◌*◌, ◌≤◌}
use Rattle.totals.proofs.soft_tally.Given as goal

abbrev pub invariant-loop : goal.invariant-loop
invariant-loop l =
    Ahead l.words (l.fn.counts.pairs - l.counter) l.at
    × Makes (record { clauses = l.clauses; literals = l.literals }) (bare (soft_ahead Standard l.side l.words l.fn.counts.pairs l.counter l.at)) (bare (soft_part Standard l.side (table_of l.words)))
    × (l.clauses ≤ 256 * l.counter)
    × (l.literals ≤ 1024 * l.counter)
