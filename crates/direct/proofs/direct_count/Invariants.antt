-- What is counted and the clauses of the values left make up all of them.
use Rattle.ends.proofs.Values.{flat_from}
use Rattle.ends.specs.Seen.{end_of}
use Rattle.clause.specs.Ends.{direct_row, direct_clauses}
use lib.ListN.{length}
use Prim.Native.Nat.{◌+◌, ◌*◌, ◌≤◌}
use mathlib.Core.Path.{◌≡◌}
use Rattle.direct.proofs.direct_count.Given as goal

abbrev pub invariant-loop-j : goal.invariant-loop-j
invariant-loop-j l =
    let e = end_of l.words l.seen in
    (l.sum + 16 ≤ 16 * l.j) × (l.sum + length (flat_from (direct_row e) l.seen.mine l.j) ≡ length (direct_clauses e))
