-- What is counted and what supports among the values left make up the support.
use Rattle.ends.proofs.Ends.{supporters_from}
use Rattle.ends.specs.Seen.{end_of}
use Rattle.clause.specs.Ends.{supports}
use lib.ListN.{length}
use Prim.Native.Nat.{◌+◌, ◌<◌}
use mathlib.Core.Path.{◌≡◌}
use Rattle.ends.proofs.supporting.Given as goal

abbrev pub invariant-loop-i : goal.invariant-loop-i
invariant-loop-i l =
    let e = end_of l.words l.seen in
    (l.sum < l.i) × (l.sum + supporters_from e l.j l.i ≡ length (supports e l.j))
