-- What was seen is no larger than the largest so far.
use Prim.Native.Nat.{◌≤◌}
use Rattle.table_check.specs.Highest.{AtMost}
use Rattle.table_check.proofs.largest.Given as goal

abbrev pub invariant-loop-at : goal.invariant-loop-at
invariant-loop-at l = (l.from ≤ l.at) × AtMost l.words l.from l.at l.most
