-- What the sizes ahead give is what all of them give.
use mathlib.Core.Path.{◌≡◌}
use Prim.Native.Nat.{◌+◌, ◌-◌, ◌≤◌}
use Rattle.table.specs.Words.{sizes_fault}
use Rattle.table_check.proofs.sizes.Given as goal

abbrev pub invariant-loop-at : goal.invariant-loop-at
invariant-loop-at l = (2 ≤ l.at) × (sizes_fault l.words (l.n + 2 - l.at) l.at ≡ sizes_fault l.words l.n 2)
