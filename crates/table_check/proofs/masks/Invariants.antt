-- What the masks ahead give is what all of them give.
use mathlib.Core.Path.{◌≡◌}
use Prim.Native.Nat.{◌+◌, ◌-◌, ◌≤◌}
use Rattle.table.specs.Words.{masks_fault}
use Rattle.table_check.proofs.masks.Given as goal

abbrev pub invariant-loop-at : goal.invariant-loop-at
invariant-loop-at l = (l.from ≤ l.at) × (masks_fault l.words l.m (l.from + l.count - l.at) l.at ≡ masks_fault l.words l.m l.count l.from)
