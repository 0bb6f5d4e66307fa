-- The largest of some words, a turn of the loop that finds it, and what it says of masks.
use mathlib.Core.Path.{◌≡◌, refl}
use mathlib.Core.Option.{none}
use mathlib.Core.List.{List}
use mathlib.Core.Logic.{◌⊎◌, inl, inr}
use Prim.Native.Nat.{ℕ, ◌+◌, ◌*◌, ◌/◌, ◌^◌, ◌≤◌, ◌<◌, max}
use lib.ListN.{length, get_or}
use native.Mathlib.Nat.{le_trans, le-max_left, le-max_right, div-eq_of_lt, div-lt_iff_lt-mul, eq-or-lt_of_le}
use native.Mathlib.Omega.{arith}
use Rattle.std.proofs.lemmas.Nat.{pow_pos}
use borrow.Author.Tests.{lt-ltb}
use Rattle.table.specs.Words.{mask_fault, masks_fault}
use Rattle.lists.proofs.Firsts.{each_first}
use Rattle.table_check.specs.Highest.{AtMost}

pub most_none : (ws : List ℕ) (from : ℕ) → AtMost ws from from 0
most_none ws from = record { each = λ i l h. absurd (omega arith) }

pub most_turn : (ws : List ℕ) (from at most : ℕ) → AtMost ws from at most → AtMost ws from (at + 1) (max (get_or ws at 0) most)
most_turn ws from at most A = record { each = each }
  where
    each : (i : ℕ) → from ≤ i → i < at + 1 → get_or ws i 0 ≤ max (get_or ws at 0) most
    each i l h = go (eq-or-lt_of_le (let z : i ≤ at = omega arith in z))
      where
        go : (i ≡ at) ⊎ (i < at) → get_or ws i 0 ≤ max (get_or ws at 0) most
        go (inl e) = rw e (le-max_left (get_or ws at 0) most)
        go (inr k) = le_trans (A.each i l k) (le-max_right (get_or ws at 0) most)

pub most_all : (ws : List ℕ) (from at to most : ℕ) → to ≤ at → AtMost ws from at most → AtMost ws from to most
most_all ws from at to most h A = record { each = λ i l k. A.each i l (omega arith) }

-- a mask that is there and lies below 2 ^ m has no bit past m values
narrow_mask : (ws : List ℕ) (m at : ℕ) → at < length ws → get_or ws at 0 / 2 ^ m ≡ 0 → mask_fault ws m at ≡ none
unfolding mask_fault
narrow_mask ws m at h z = rw (lt-ltb at (length ws) h, z)

-- where the largest has no bit past m values, none has
pub masks_narrow : (ws : List ℕ) (m count from most : ℕ) → from + count ≤ length ws → AtMost ws from (from + count) most → most / 2 ^ m ≡ 0
    → masks_fault ws m count from ≡ none
masks_narrow ws m count from most e A z = each_first (mask_fault ws m) count from (λ i h. narrow_mask ws m (from + i) (omega arith) (small i h))
  where
    small : (i : ℕ) → i < count → get_or ws (from + i) 0 / 2 ^ m ≡ 0
    small i h =
        let one : most / 2 ^ m < 1 = omega (arith, z) in
        let below = (div-lt_iff_lt-mul (pow_pos m)).0 one in
        let least = A.each (from + i) (omega arith) (omega arith) in
        div-eq_of_lt (omega (arith, below, least))
