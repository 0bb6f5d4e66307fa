-- What was counted and what is left make the whole.
use Rattle.list_scan.specs.ListLines.{bit_count_lem}
use lib.ListN.{drop}
use mathlib.Core.Path.{◌≡◌}
use Prim.Native.Nat.{◌+◌}
use Rattle.list_scan.proofs.bit_count.Given as goal

abbrev pub invariant-loop-i : goal.invariant-loop-i
invariant-loop-i l = (l.m + bit_count_lem (drop l.i l.text) ≡ bit_count_lem (drop l.from l.text)) × (l.i ≡ l.from + l.m)
