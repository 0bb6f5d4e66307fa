-- What is left is a row of the values left exactly if the whole is a row.
use Rattle.row_scan.specs.Rows.{is_row}
use lib.ListN.{drop}
use mathlib.Core.Path.{◌≡◌}
use Rattle.row_scan.proofs.is_row.Given as goal

abbrev pub invariant-loop-i : goal.invariant-loop-i
invariant-loop-i l = is_row l.m (drop l.at l.s) ≡ is_row l.left (drop l.i l.s)
