-- The hard part of one box says that it holds one value: each of the two, exactly; and both by one name.
use mathlib.Core.Path.{◌≡◌}
use mathlib.Core.Logic.{◌↔◌}
use Prim.Native.Nat.{ℕ}
use mathlib.Core.Bool.{true}
use Rattle.clause.specs.declared.Hard.{Hard}
use Rattle.clause.specs.declared.Hard.TheVariants.{Standard, Regular}
use Rattle.clause.specs.Clause.{Reading, all_true}
use Rattle.clause.specs.Numbers.{value_from, step_from}
use Rattle.clause.specs.Hard.{standard_box, regular_box, box_with}
use Rattle.clause.proofs.OneValue.{Holds, Climbs}
use Rattle.clause.proofs.StandardBox.{standard_holds, holds_standard}
use Rattle.clause.proofs.RegularBox.{regular_holds, holds_regular}

-- THEOREM. All standard clauses of a box are true exactly if one of its variables is, and no other.
pub standard_exact : (ν : Reading) (x : ℕ → ℕ) (m : ℕ) → (all_true ν (standard_box x m) ≡ true) ↔ ((a : ℕ) × Holds ν x m a)
standard_exact ν x m = (standard_holds ν x m, λ H. holds_standard ν x m H.0 H.1)

-- THEOREM. All regular clauses of a box are true exactly if, for some value a, x_a alone is true of its variables, and r_j exactly for j ≤ a.
pub regular_exact : (ν : Reading) (x r : ℕ → ℕ) (m : ℕ) → (all_true ν (regular_box x r m) ≡ true) ↔ ((a : ℕ) × Holds ν x m a × Climbs ν r m a)
regular_exact ν x r m = (regular_holds ν x r m, λ H. holds_regular ν x r m H.0 H.1 H.2)

-- ---- both hard parts by one name

-- the thresholds of the regular part, where there are any
abbrev pub Steps : Hard → Reading → (s m a : ℕ) → Type 0
Steps Standard ν s m a = Unit {0}
Steps Regular ν s m a = Climbs ν (step_from s) m a

pub box_holds : (h : Hard) (ν : Reading) (v s m : ℕ) → all_true ν (box_with h v s m) ≡ true → (a : ℕ) × Holds ν (value_from v) m a × Steps h ν s m a
unfolding box_with
box_holds Standard ν v s m e = let (a, H) = standard_holds ν (value_from v) m e in (a, H, tt)
box_holds Regular ν v s m e = regular_holds ν (value_from v) (step_from s) m e

pub holds_box : (h : Hard) (ν : Reading) (v s m a : ℕ) → Holds ν (value_from v) m a → Steps h ν s m a → all_true ν (box_with h v s m) ≡ true
unfolding box_with
holds_box Standard ν v s m a H C = holds_standard ν (value_from v) m a H
holds_box Regular ν v s m a H C = holds_regular ν (value_from v) (step_from s) m a H C
