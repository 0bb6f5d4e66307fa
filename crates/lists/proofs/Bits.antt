-- No bit of a mask past the first m: what a shift by m leaves.
use mathlib.Core.Path.{◌≡◌}
use Prim.Native.Nat.{ℕ, ◌/◌, ◌^◌, ◌≤◌, ◌<◌}
use native.Mathlib.Nat.{one-mul, div-eq_of_lt, div-lt_iff_lt-mul}
use native.Mathlib.Omega.{arith}
use mathlib.Core.Bool.{true, false}
use lib.Dec.{eqb}
use lib.Pow.{pow_pos}
use borrow.Author.Tests.{eq-eqb, ne_eqb}

pub shift_none : (w m : ℕ) → w / 2 ^ m ≡ 0 → w < 2 ^ m
shift_none w m e = rw one-mul at ((div-lt_iff_lt-mul {k = 2 ^ m} {x = w} {y = 1} (pow_pos m)).0 (omega arith))

pub pow_small : (w m : ℕ) → w < 2 ^ m → eqb (w / 2 ^ m) 0 ≡ true
pow_small w m h = eq-eqb (w / 2 ^ m) 0 (div-eq_of_lt h)

pub pow_large : (w m : ℕ) → 2 ^ m ≤ w → eqb (w / 2 ^ m) 0 ≡ false
pow_large w m h = ne_eqb (w / 2 ^ m) 0 (λ e. omega (arith, shift_none w m e))
