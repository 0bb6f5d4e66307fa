-- The first thing found: taken apart, and a turn of a loop that looks for it.
use mathlib.Core.Path.{◌≡◌, refl}
use mathlib.Core.Bool.{Bool, true, false}
use mathlib.Core.Option.{Option, none, some}
use Prim.Native.Nat.{ℕ, zero, suc, ◌+◌, ◌-◌, ◌<◌}
use native.Mathlib.Nat.{add-zero}
use native.Mathlib.Omega.{arith}
use Rattle.lists.specs.Firsts.{◌then◌, unless, first_of}

module _ {A : Type 0} where
  pub unless_none : (b : Bool) (f : A) → unless b f ≡ none → b ≡ true
  unless_none true f e = refl
  unless_none false f e = cc

  pub then_none : (a b : Option A) → (a then b) ≡ none → (a ≡ none) × (b ≡ none)
  then_none none b e = (refl, e)
  then_none (some f) b e = (cc, cc)

  -- neither search finds anything
  pub none_then : {a b : Option A} → a ≡ none → b ≡ none → (a then b) ≡ none
  none_then p q = rw (p, q)

  module _ (f : ℕ → Option A) (next : ℕ → ℕ) (n i at : ℕ) where
    -- nothing is left to look at
    pub first_end : n - i ≡ 0 → first_of f next (n - i) at ≡ none
    unfolding first_of
    first_end h = rw h

    -- a turn that finds nothing
    pub first_next : i < n → f at ≡ none → first_of f next (n - i) at ≡ first_of f next (n - (i + 1)) (next at)
    unfolding first_of
    first_next h e = let k : n - i ≡ suc (n - (i + 1)) = omega arith in rw (k, e)

    -- a turn that finds something
    pub first_found : {g : A} → i < n → f at ≡ some g → first_of f next (n - i) at ≡ some g
    unfolding first_of
    first_found h e = let k : n - i ≡ suc (n - (i + 1)) = omega arith in rw (k, e)

  -- where nothing is found among things one apart, nothing is found at any of them
  pub first_each : (f : ℕ → Option A) (n at i : ℕ) → first_of f (λ k. k + 1) n at ≡ none → i < n → f (at + i) ≡ none
  unfolding first_of
  first_each f zero at i e h = absurd (omega arith)
  first_each f (suc n) at zero e h = rw add-zero (then_none (f at) _ e).0
  first_each f (suc n) at (suc i) e h =
      let k : at + suc i ≡ at + 1 + i = omega arith in
      rw k (first_each f n (at + 1) i (then_none (f at) _ e).1 (omega arith))

  -- where nothing is to be found at any of the things one apart, nothing is found among them
  pub each_first : (f : ℕ → Option A) (n at : ℕ) → ((i : ℕ) → i < n → f (at + i) ≡ none) → first_of f (λ k. k + 1) n at ≡ none
  unfolding first_of
  each_first f zero at g = refl
  each_first f (suc n) at g =
      none_then (rw add-zero at (g 0 (omega arith)))
      (each_first f n (at + 1) (λ i h. let k : at + 1 + i ≡ at + suc i = omega arith in rw k (g (suc i) (omega arith))))
