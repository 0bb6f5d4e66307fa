-- Truth values, and cases on a test, an order or an equality that keep what was found.
use mathlib.Core.Path.{◌≡◌, refl, sym, ap₂, ◌∙◌, subst}
use mathlib.Core.Logic.{◌≢◌, ◌↔◌}
use Prim.Native.Nat.{ℕ, ◌≤◌, ◌<◌}
use native.Mathlib.Nat.{lt_of_not-le}
use native.Mathlib.Decide.{dec_le, ℕ_discrete}
use mathlib.Core.Bool.{Bool, true, false, not, ◌&&◌, beq}
use lib.Dec.{T}

pub and_left : (a b : Bool) → (a && b) ≡ true → a ≡ true
and_left true b e = refl
and_left false b e = e

pub and_right : (a b : Bool) → (a && b) ≡ true → b ≡ true
and_right true b e = e
and_right false b e = absurd (subst (λ (t : Bool). T (not t)) e tt)

pub both : {a b : Bool} → a ≡ true → b ≡ true → (a && b) ≡ true
both p q = ap₂ ◌&&◌ p q

-- by cases on a truth value, with the equation
pub test {ℓ} : {X : Type ℓ} (b : Bool) → (b ≡ true → X) → (b ≡ false → X) → X
test true f g = f refl
test false f g = g refl

pub clash {ℓ} : {X : Type ℓ} {b : Bool} → b ≡ true → b ≡ false → X
clash p q = absurd (subst T (sym p ∙ q) tt)

-- by order, or by equality
pub order {ℓ} : {X : Type ℓ} (a b : ℕ) → (a ≤ b → X) → (b < a → X) → X
order a b f g = elim (dec_le a b) [ yes h ↦ f h | no h ↦ g (lt_of_not-le h) ]

pub same {ℓ} : {X : Type ℓ} (a b : ℕ) → (a ≡ b → X) → (a ≢ b → X) → X
same a b f g = elim (ℕ_discrete a b) [ yes h ↦ f h | no h ↦ g h ]

-- two tests that pass in the same cases
pub same_test : (o q : Bool) → (o ≡ true → q ≡ true) → (q ≡ true → o ≡ true) → o ≡ q
same_test true q f g = sym (f refl)
same_test false true f g = g refl
same_test false false f g = refl

-- they are equal exactly if the test of equality passes
pub beq_exact : (p q : Bool) → (beq p q ≡ true) ↔ (p ≡ q)
beq_exact true true = (λ e. refl, λ e. refl)
beq_exact true false = (λ e. sym e, λ e. sym e)
beq_exact false true = (λ e. e, λ e. e)
beq_exact false false = (λ e. refl, λ e. refl)
