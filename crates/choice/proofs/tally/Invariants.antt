-- What is counted and the clauses of the values left come to the end's tally.
use Rattle.choice.proofs.Tallies.{Makes}
use Rattle.choice.specs.declared.EndTally.{EndTally}
use Rattle.choice.specs.Tally.{end_tally}
use Rattle.ends.proofs.Values.{flat_from}
use Rattle.ends.specs.Seen.{end_of}
use Rattle.clause.specs.Ends.{support_at}
use Prim.Native.Nat.{ℕ, ◌+◌, ◌*◌, ◌≤◌}
use mathlib.Core.List.{[]}
use Rattle.choice.proofs.tally.Given as goal

abbrev pub so_far : ℕ → ℕ → ℕ → EndTally
so_far clauses literals score = record { clauses = clauses; literals = literals; score = score }

abbrev pub invariant-loop-j : goal.invariant-loop-j
invariant-loop-j l =
    let e = end_of l.words l.seen in
    (l.clauses + 1 ≤ l.j)
    × (l.literals + 17 ≤ 17 * l.j)
    × (l.score + 16 ≤ 16 * l.j)
    × Makes (so_far l.clauses l.literals l.score) (flat_from (support_at e []) l.seen.mine l.j) (end_tally e)
