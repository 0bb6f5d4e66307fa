-- From the place reached, the lines left begin where the whole says.
use Rattle.list_scan.specs.ListLines.{line_start_lem}
use lib.ListN.{length, drop}
use mathlib.Core.Path.{◌≡◌}
use Prim.Native.Nat.{◌+◌, ◌≤◌}
use Rattle.list_scan.proofs.line_start.Given as goal

abbrev pub invariant-loop-i : goal.invariant-loop-i
invariant-loop-i l = (l.i + line_start_lem l.left (drop l.i l.text) ≡ line_start_lem l.line l.text) × (l.i ≤ length l.text)
