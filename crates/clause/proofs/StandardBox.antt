-- The standard clauses of one box say that it holds a value: proved once over its number of values, for any numbers of its variables.
use mathlib.Core.Path.{◌≡◌, refl, sym, ap₂, ◌∙◌}
use Prim.Native.Nat.{ℕ, suc, ◌-◌, ◌≤◌, ◌<◌}
use native.Mathlib.Omega.{arith}
use mathlib.Core.Bool.{Bool, true, false, not, ◌&&◌, ◌||◌, or-true}
use lib.Dec.{eqb}
use borrow.Author.Tests.{eq-eqb, ne_eqb}
use Rattle.lists.specs.Lists.{count, all, any}
use Rattle.lists.proofs.Truth.{and_left, and_right, both, order, same}
use Rattle.lists.proofs.Lists.{all_map, all_flat, any_map}
use Rattle.lists.proofs.Runs.{all_at, at_all, any_at, at_any}
use Rattle.clause.specs.Clause.{Reading, all_true}
use Rattle.clause.specs.Hard.{standard_box}
use Rattle.clause.proofs.OneValue.{Holds, holds_is}

-- a clause of two negations: at most one is true
nand : Bool → Bool → Bool
nand p q = not p || (not q || false)

nand_left : (p q : Bool) → nand p q ≡ true → q ≡ true → p ≡ false
unfolding nand
nand_left true true e f = sym e
nand_left true false e f = sym f
nand_left false q e f = refl

nand_right : (p q : Bool) → nand p q ≡ true → p ≡ true → q ≡ false
unfolding nand
nand_right true true e f = sym e
nand_right true false e f = refl
nand_right false true e f = sym f
nand_right false false e f = refl

-- two different values are not both a
nand_eqb : (a j k : ℕ) → j < k → nand (eqb j a) (eqb k a) ≡ true
unfolding nand
nand_eqb a j k h = same j a (λ q. rw (ne_eqb k a (λ z. omega arith)) (or-true (not (eqb j a)))) (λ q. rw (ne_eqb j a q))

-- what the clauses say of the variables
standard_says : (ν : Reading) (x : ℕ → ℕ) (m : ℕ)
    → all_true ν (standard_box x m)
    ≡ (any (λ j. ν (x j)) (count 1 m) && all (λ j. all (λ k. nand (ν (x j)) (ν (x k))) (count (suc j) (m - j))) (count 1 m))
unfolding standard_box nand
standard_says ν x m = simp (any_map, all_flat, all_map)

module _ (ν : Reading) (x : ℕ → ℕ) (m : ℕ) where
  pub standard_holds : all_true ν (standard_box x m) ≡ true → (a : ℕ) × Holds ν x m a
  standard_holds e =
      let f : ℕ → Bool = λ j. ν (x j) in
      let some : Bool = any f (count 1 m) in
      let apart : ℕ → Bool = λ j. all (λ k. nand (f j) (f k)) (count (suc j) (m - j)) in
      let g : (some && all apart (count 1 m)) ≡ true = sym (standard_says ν x m) ∙ e in
      let (a, l, h, t) = any_at f 1 m (and_left some (all apart (count 1 m)) g) in
      let pairs : (j k : ℕ) → 1 ≤ j → j < k → k ≤ m → nand (f j) (f k) ≡ true
      = λ j k p q u. all_at (λ k. nand (f j) (f k)) (suc j) (m - j)
      (all_at apart 1 m (and_right some (all apart (count 1 m)) g) j (omega arith) (omega arith)) k (omega arith) (omega arith) in (
        a,
        record {
          low = l;
          high = omega arith;
          at = λ j p q.
              order a j
              (λ u. same a j
              (λ z. rw (← z) (t ∙ sym (eq-eqb a a refl)))
              (λ z. nand_right (f a) (f j) (pairs a j (omega arith) (omega arith) q) t ∙ sym (ne_eqb j a (λ y. omega arith))))
              (λ u. nand_left (f j) (f a) (pairs j a p u (omega arith)) t ∙ sym (ne_eqb j a (λ y. omega arith)));
        },
      )

  pub holds_standard : (a : ℕ) → Holds ν x m a → all_true ν (standard_box x m) ≡ true
  holds_standard a H =
      rw standard_says
      (both (at_any (λ j. ν (x j)) 1 m a H.low (omega arith) (holds_is H))
      (at_all _ 1 m (λ j l h. at_all _ (suc j) (m - j) (λ k p q.
      ap₂ nand (H.at j l (omega arith)) (H.at k (omega arith) (omega arith)) ∙ nand_eqb a j k p))))
