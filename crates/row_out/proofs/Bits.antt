-- A loop that puts the characters of a mask's values.
use mathlib.Core.Path.{◌≡◌, refl}
use mathlib.Core.List.{List, [], ◌∷◌, ◌++◌}
use Prim.Native.Nat.{ℕ, zero, suc, ◌+◌, ◌-◌, ◌/◌, ◌%◌, ◌≤◌, ◌<◌}
use native.Mathlib.Nat.{sub-zero}
use native.Mathlib.Omega.{arith}
use Rattle.lists.specs.Stores.{Wrote, Owes}
use Rattle.lists.proofs.Stores.{owes_all, owes_part, owes_none}
use Rattle.text_out.specs.Texts.{bits_of}

bits_none : (n mask : ℕ) → n ≡ 0 → bits_of n mask ≡ []
unfolding bits_of
bits_none zero mask e = refl
bits_none (suc n) mask e = absurd (omega arith)

bits_step : (n k mask : ℕ) → n ≡ suc k → bits_of n mask ≡ ((48 + mask % 2) ∷ []) ++ bits_of k (mask / 2)
unfolding bits_of
bits_step n k mask e = rw e

-- the characters of the first i of m values stand in the slice from `from` on, and those of `rest` are owed
pub record Bits (old : List ℕ) (from m mask : ℕ) (out : List ℕ) (at rest i : ℕ) : Type 0 where
  pub some : i ≤ m
  pub past : at ≡ from + i
  pub owed : Owes old from (bits_of m mask) out at (bits_of (m - i) rest)

pub bits_begin : {old : List ℕ} {from m mask : ℕ} → Bits old from m mask old from mask 0
bits_begin = record { some = omega arith; past = omega arith; owed = rw sub-zero owes_all }

pub bits_turn : {old out new : List ℕ} {from m mask at rest i r : ℕ}
    → Bits old from m mask out at rest i → i < m → Wrote out at ((48 + rest % 2) ∷ []) r new → Bits old from m mask new r (rest / 2) (i + 1)
bits_turn {m = m} {rest = rest} {i = i} b h w =
    record {
      some = omega arith;
      past = omega (arith, w.next, b.past);
      owed = owes_part b.owed (bits_step (m - i) (m - (i + 1)) rest (omega arith)) w;
    }

pub bits_all : {old out : List ℕ} {from m mask at rest i : ℕ} → Bits old from m mask out at rest i → m ≤ i → Wrote old from (bits_of m mask) at out
bits_all {m = m} {rest = rest} {i = i} b h = owes_none b.owed (bits_none (m - i) rest (omega arith))
