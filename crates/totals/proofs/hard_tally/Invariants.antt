-- What is counted and what the boxes ahead come to make up the hard part.
use Rattle.totals.proofs.Counting.{Makes}
use Rattle.clause.proofs.Turns.{hard_from}
use Rattle.clause.specs.List.{hard_part}
use Rattle.table.specs.Words.{table_of}
use Prim.Native.Nat.{◌-◌, ◌*◌, ◌≤◌}
use Rattle.totals.proofs.hard_tally.Given as goal

abbrev pub invariant-loop-b : goal.invariant-loop-b
invariant-loop-b l =
    Makes (record { clauses = l.clauses; literals = l.literals }) (hard_from l.hard (table_of l.words) l.n l.b) (hard_part l.hard (table_of l.words))
    × (l.clauses ≤ 128 * (l.b - 1))
    × (l.literals ≤ 400 * (l.b - 1))
