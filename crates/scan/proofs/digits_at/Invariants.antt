-- What the rest of the digits gives is what all of them give; the number stays below ten times the bound.
use Rattle.scan.specs.Lines.{digits_at_lem}
use lib.ListN.{drop}
use mathlib.Core.Path.{◌≡◌}
use Prim.Native.Nat.{◌+◌, ◌*◌, ◌≤◌}
use Rattle.scan.proofs.digits_at.Given as goal

abbrev pub invariant-loop-i : goal.invariant-loop-i
invariant-loop-i l = (digits_at_lem l.stop l.low l.high l.first l.from (drop l.from l.s) ≡ digits_at_lem l.stop l.low l.high l.v l.i (drop l.i l.s)) × (l.v ≤ l.high * 10 + 9)
