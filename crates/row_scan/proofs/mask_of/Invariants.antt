-- From the last value down, the mask so far is that of the values passed.
use Rattle.row_scan.specs.Rows.{value_of}
use lib.ListN.{drop}
use mathlib.Core.Path.{◌≡◌}
use Prim.Native.Nat.{◌+◌, ◌-◌, ◌^◌, ◌≤◌, ◌<◌}
use Rattle.row_scan.proofs.mask_of.Given as goal

abbrev pub invariant-loop-j : goal.invariant-loop-j
invariant-loop-j l = (l.v ≡ value_of (l.m - l.j) (drop (l.at + l.j) l.s)) × (l.j ≤ l.m) × (l.v < 2 ^ (l.m - l.j))
