-- The two counts stand in an accepted table's words, and its variables are few.
use mathlib.Core.List.{List}
use Prim.Native.Nat.{ℕ, ◌+◌, ◌≤◌, ◌<◌}
use native.Mathlib.Omega.{arith}
use lib.ListN.{length}
use Rattle.table.proofs.Words.{accepted_parts}
use Rattle.table.specs.Words.{table_of, Accepted}
use Rattle.clause.specs.declared.Hard.{Hard}
use Rattle.clause.specs.declared.Side.{Side}
use Rattle.clause.specs.Numbers.{values, thresholds, switches}
use Rattle.numbers.proofs.Counted.{bases_few, switches_few}

module _ (ws : List ℕ) (A : Accepted ws) where
  pub counts_stand : 1 < length ws
  counts_stand = (accepted_parts ws A).pairs.inside

  pub variables_small : (h : Hard) (s : Side) → values (table_of ws) + thresholds (table_of ws) h + switches (table_of ws) s ≤ 2304
  variables_small h s = omega (arith, bases_few ws A h, switches_few ws A s)
