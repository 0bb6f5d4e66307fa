-- A variable number as a signed literal: that it fits, and that passing it on changes nothing.
use mathlib.Core.Path.{◌≡◌, ap, ◌∙◌}
use Prim.Native.Nat.{ℕ, zero, suc, ◌<◌, ◌^◌}
use native.Mathlib.Omega.{arith}
use lib.IntN.{ℤ, pos, neg_ℤ, ◌-ℤ◌, +ℤ_idl}
use mir.Val.{SFits, to_z, of_z}
use mir.ValLaws.{to_z_pos, to_z-of_z}
use mir.Syntax.{w32}
use Rattle.puts.specs.Signed.{neg}

pub neg_fits : (v : ℕ) → v < 2 ^ 31 → SFits w32 (neg v)
neg_fits zero h = record { sfits = omega arith }
neg_fits (suc v) h = record { sfits = omega arith }

pub pos_fits : (v : ℕ) → v < 2 ^ 31 → SFits w32 (pos v)
pos_fits v h = record { sfits = omega arith }

pub negated : (v : ℕ) → v < 2 ^ 31 → pos 0 -ℤ to_z w32 v ≡ neg v
negated v h = rw (to_z_pos w32 v h) (+ℤ_idl (neg_ℤ (pos v)))

-- a value that a function gave and another was handed
pub passed : {r : ℤ} (z : ℤ) → SFits w32 z → r ≡ z → to_z w32 (of_z w32 r) ≡ z
passed z f e = ap (λ (y : ℤ). to_z w32 (of_z w32 y)) e ∙ to_z-of_z w32 z f
