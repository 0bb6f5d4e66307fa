-- One box after the other.
use Rattle.std.proofs.Common.{◌+◌, ◌≤◌}
use Rattle.encode.proofs.print_boxes.Given as goal

abbrev pub invariant-loop-b : goal.invariant-loop-b
invariant-loop-b g l = (1 ≤ l.b) × (l.b ≤ l.n + 1) × (l.at ≤ 65536)
