-- The loops, turn by turn: what is left of a run gives what the whole gives.
use mathlib.Core.Path.{◌≡◌}
use mathlib.Core.Bool.{Bool, true, false, cond, beq}
use Prim.Native.Nat.{ℕ, suc, ◌+◌, ◌-◌, ◌≤◌, ◌<◌}
use native.Mathlib.Omega.{arith}
use lib.Dec.{leb}
use Rattle.lists.specs.Lists.{count, all, sum_of}
use Rattle.clause.specs.Clause.{Reading}
use Rattle.clause.specs.Numbers.{step_from}
use Rattle.list_boxes.specs.Lists.{held}

-- ---- the values of a box, from j to m

module _ (ν : Reading) (x : ℕ → ℕ) (m j : ℕ) where
  abbrev pub true_from : ℕ
  true_from = sum_of (λ k. cond (ν (x k)) 1 0) (count j (m + 1 - j))

  pub held_hit : j ≤ m → ν (x j) ≡ true → held ν x j (m + 1 - j) ≡ j
  unfolding held
  held_hit h e = let k : m + 1 - j ≡ suc (m + 1 - (j + 1)) = omega arith in rw (k, e)

  pub held_miss : j ≤ m → ν (x j) ≡ false → held ν x j (m + 1 - j) ≡ held ν x (j + 1) (m + 1 - (j + 1))
  unfolding held
  held_miss h e =
      let k : m + 1 - j ≡ suc (m + 1 - (j + 1)) = omega arith in
      let z : suc j ≡ j + 1 = omega arith in
      rw (k, e, z)

  pub held_end : m < j → held ν x j (m + 1 - j) ≡ 0
  unfolding held
  held_end h = let k : m + 1 - j ≡ 0 = omega arith in rw k

-- ---- the thresholds of a box, from j to m

-- r_j is 1 exactly if j is at most a
abbrev pub says_at : Reading → (s a j : ℕ) → Bool
says_at ν s a j = beq (ν (step_from s j)) (leb j a)

module _ (ν : Reading) (s m a : ℕ) where
  abbrev pub says_from : ℕ → Bool
  says_from j = all (says_at ν s a) (count j (m + 1 - j))
