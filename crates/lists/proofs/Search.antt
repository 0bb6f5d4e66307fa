-- A search over numbers one apart finds what stands at the lowest number at which something is to be found.
use mathlib.Core.Path.{◌≡◌, refl, ap, ◌∙◌}
use mathlib.Core.Logic.{◌↔◌, ◌⊎◌, inl, inr}
use mathlib.Core.Bool.{Bool, true, false}
use mathlib.Core.Option.{Option, none, some}
use Prim.Native.Nat.{ℕ, zero, suc, ◌+◌, ◌-◌, ◌≤◌, ◌<◌}
use native.Mathlib.Omega.{arith}
use Rattle.lists.specs.Firsts.{◌then◌, unless, first_of, Lowest}
use Rattle.lists.proofs.Truth.{same}
use Rattle.lists.proofs.Firsts.{unless_none, then_none, none_then, first_each, each_first}

module _ {A : Type 0} where
  -- a test finds nothing exactly if it passes, and else what it was given
  pub unless_exact : (o : Bool) (r : A) → (unless o r ≡ none) ↔ (o ≡ true)
  unless_exact o r = (unless_none o r, λ e. rw e)

  pub unless_fails : (o : Bool) (r : A) → (o ≡ true → ⊥) → unless o r ≡ some r
  unless_fails true r d = absurd (d refl)
  unless_fails false r d = refl

  -- two searches find nothing exactly if neither does
  pub then_exact : (o q : Option A) → ((o then q) ≡ none) ↔ ((o ≡ none) × (q ≡ none))
  then_exact o q = (then_none o q, λ w. none_then w.0 w.1)

  -- where the first search finds something, that is found
  some_then : (o q : Option A) → (o ≡ none → ⊥) → (o then q) ≡ o
  some_then none q d = absurd (d refl)
  some_then (some r) q d = refl

-- f finds nothing at i exactly if P holds there
module _ {A : Type 0} (f : ℕ → Option A) (P : ℕ → Type 0) (exact : (i : ℕ) → (f i ≡ none) ↔ P i) where
  abbrev Everywhere : ℕ → ℕ → Type 0
  Everywhere n a = (i : ℕ) → a ≤ i → i < a + n → P i

  -- nothing is found exactly if P holds at all n numbers
  pub clear_exact : (n a : ℕ) → (first_of f (λ k. k + 1) n a ≡ none) ↔ Everywhere n a
  clear_exact n a = (
    λ e i l h. let z : a + (i - a) ≡ i = omega arith in rw z at ((exact (a + (i - a))).0 (first_each f n a (i - a) e (omega arith))),
    λ g. each_first f n a (λ i h. (exact (a + i)).1 (g (a + i) (omega arith) (omega arith))),
  )

  -- it holds at all of them, or there is a lowest at which it does not
  pub lowest : (n a : ℕ) → Everywhere n a ⊎ ((i : ℕ) × Lowest P a n i)
  lowest zero a = inl (λ i l h. absurd (omega arith))
  lowest (suc n) a = go (f a) refl (lowest n (a + 1))
    where
      further : {i : ℕ} → P a → Lowest P (a + 1) n i → Lowest P a (suc n) i
      further p L =
          record {
            low = omega (arith, L.low);
            high = omega (arith, L.high);
            fails = L.fails;
            before = λ j l h. same j a (λ z. rw z p) (λ z. L.before j (omega arith) h);
          }

      here : {r : A} → f a ≡ some r → Lowest P a (suc n) a
      here e =
          record {
            low = omega arith;
            high = omega arith;
            fails = λ p. let z : ◌≡◌ {A = ℕ} 0 1 = cc ((exact a).1 p) in omega arith;
            before = λ j l h. absurd (omega arith);
          }

      go : (o : Option A) → f a ≡ o → Everywhere n (a + 1) ⊎ ((i : ℕ) × Lowest P (a + 1) n i) → Everywhere (suc n) a ⊎ ((i : ℕ) × Lowest P a (suc n) i)
      go none e (inl g) = inl (λ i l h. same i a (λ z. rw z ((exact a).0 e)) (λ z. g i (omega arith) (omega arith)))
      go none e (inr w) = inr (w.0, further ((exact a).0 e) w.1)
      go (some r) e w = inr (a, here e)

  -- and then what stands there is found
  pub lowest_found : (n a i : ℕ) → Lowest P a n i → first_of f (λ k. k + 1) n a ≡ f i
  unfolding first_of
  lowest_found zero a i L = absurd (omega (arith, L.low, L.high))
  lowest_found (suc n) a i L =
      same a i
      (λ z. some_then (f a) (first_of f (λ k. k + 1) n (a + 1)) (λ e. L.fails (rw (← z) ((exact a).0 e))) ∙ ap f z)
      (λ z.
      let l : a + 1 ≤ i = omega (arith, L.low) in
      rw ((exact a).1 (L.before a (omega arith) (omega arith)))
      (lowest_found n (a + 1) i (record { low = l; high = omega (arith, L.high); fails = L.fails; before = λ j u v. L.before j (omega arith) v })))
