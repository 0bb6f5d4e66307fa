-- Zeros, and a turn of the loop that puts a run of one value.
use mathlib.Core.Path.{◌≡◌, refl, ap}
use mathlib.Core.List.{List, [], ◌∷◌}
use Prim.Native.Nat.{ℕ, suc, ◌+◌, ◌-◌, ◌≤◌, ◌<◌}
use native.Mathlib.Nat.{sub-zero}
use native.Mathlib.Omega.{arith}
use lib.ListN.{length, replicate}
use lib.IntN.{ℤ, pos}
use Rattle.lists.specs.Stores.{Wrote, Owes}
use Rattle.lists.proofs.Stores.{owes_all, owes_part, owes_none}
use Rattle.fills.specs.Zeros.{zeros}

pub all_zero : (l : List ℤ) → replicate (length l) (pos 0) ≡ zeros l
all_zero [] = refl
all_zero (a ∷ l) = ap (λ (r : List ℤ). pos 0 ∷ r) (all_zero l)

module _ {A : Type 0} where
  -- i of the n entries stand in the slice from `from` on, and the others are owed
  pub record Running (old : List A) (from : ℕ) (v : A) (n : ℕ) (out : List A) (at i : ℕ) : Type 0 where
    pub some : i ≤ n
    pub past : at ≡ from + i
    pub owed : Owes old from (replicate n v) out at (replicate (n - i) v)

  pub run_none : {old : List A} {from n : ℕ} {v : A} → Running old from v n old from 0
  run_none = record { some = omega arith; past = omega arith; owed = rw sub-zero owes_all }

  pub run_turn : {old out new : List A} {from n at i r : ℕ} {v : A}
      → Running old from v n out at i → i < n → Wrote out at (v ∷ []) r new → Running old from v n new r (i + 1)
  run_turn {n = n} {i = i} {v = v} c h w =
      let e : n - i ≡ suc (n - (i + 1)) = omega arith in
      record {
        some = omega arith;
        past = omega (arith, w.next, c.past);
        owed = owes_part c.owed (rw e) w;
      }

  pub run_all : {old out : List A} {from n at i : ℕ} {v : A} → Running old from v n out at i → n ≤ i → Wrote old from (replicate n v) at out
  run_all {n = n} {i = i} {v = v} c h =
      let z : n - i ≡ 0 = omega arith in
      owes_none c.owed (ap (λ (k : ℕ). replicate k v) z)
