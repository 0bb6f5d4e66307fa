-- `all`, `any` and `sum_of` over a run of numbers s .. s + n - 1. A sum whose terms are 0 but at one number is that term: this carries every side's argument.
use mathlib.Core.Path.{◌≡◌, refl, sym, ap, ap₂, ◌∙◌, subst}
use mathlib.Core.Logic.{◌≢◌}
use Prim.Native.Nat.{ℕ, zero, suc, ◌+◌, ◌-◌, ◌≤◌, ◌<◌}
use native.Mathlib.Nat.{zero-add, add-zero}
use native.Mathlib.Omega.{arith}
use mathlib.Core.Bool.{Bool, true, false, not, ◌||◌}
use mathlib.Core.List.{[], ◌∷◌}
use lib.Dec.{T}
use Rattle.lists.specs.Lists.{count, all, any, sum_of}
use Rattle.lists.proofs.Truth.{and_left, and_right, both, test, clash, same}

-- a test passes on the whole run: at each number of it, and the other way round
pub all_at : (f : ℕ → Bool) (s n : ℕ) → all f (count s n) ≡ true → (j : ℕ) → s ≤ j → j < s + n → f j ≡ true
all_at f s zero e j l h = absurd (omega arith)
all_at f s (suc n) e j l h =
    same s j (λ q. rw (← q) (and_left (f s) (all f (count (suc s) n)) e))
    (λ q. all_at f (suc s) n (and_right (f s) (all f (count (suc s) n)) e) j (omega arith) (omega arith))

pub at_all : (f : ℕ → Bool) (s n : ℕ) → ((j : ℕ) → s ≤ j → j < s + n → f j ≡ true) → all f (count s n) ≡ true
at_all f s zero g = refl
at_all f s (suc n) g = both (g s (omega arith) (omega arith)) (at_all f (suc s) n (λ j l h. g j (omega arith) (omega arith)))

-- a test passes somewhere on the run
pub any_at : (f : ℕ → Bool) (s n : ℕ) → any f (count s n) ≡ true → (j : ℕ) × (s ≤ j) × (j < s + n) × (f j ≡ true)
any_at f s zero e = absurd (subst (λ (t : Bool). T (not t)) e tt)
any_at f s (suc n) e =
    test (f s) (λ p. (s, omega arith, omega arith, p))
    (λ p. let (j, l, h, q) = any_at f (suc s) n (rw p at e) in (j, omega arith, omega arith, q))

pub at_any : (f : ℕ → Bool) (s n j : ℕ) → s ≤ j → j < s + n → f j ≡ true → any f (count s n) ≡ true
at_any f s zero j l h e = absurd (omega arith)
at_any f s (suc n) j l h e =
    test (f s) (λ p. rw p)
    (λ p. rw p (at_any f (suc s) n j (same s j (λ q. clash e (rw q at p)) (λ q. omega arith)) (omega arith) e))

-- it passes nowhere on the run
pub none_any : (f : ℕ → Bool) (s n : ℕ) → ((j : ℕ) → s ≤ j → j < s + n → f j ≡ false) → any f (count s n) ≡ false
none_any f s zero g = refl
none_any f s (suc n) g = ap₂ ◌||◌ (g s (omega arith) (omega arith)) (none_any f (suc s) n (λ j l h. g j (omega arith) (omega arith)))

pub sum_none : (f : ℕ → ℕ) (s n : ℕ) → ((j : ℕ) → s ≤ j → j < s + n → f j ≡ 0) → sum_of f (count s n) ≡ 0
sum_none f s zero g = refl
sum_none f s (suc n) g = ap₂ ◌+◌ (g s (omega arith) (omega arith)) (sum_none f (suc s) n (λ j l h. g j (omega arith) (omega arith)))

-- all terms of a sum but one are 0
pub sum_only : (f : ℕ → ℕ) (s n a : ℕ) → s ≤ a → a < s + n → ((j : ℕ) → s ≤ j → j < s + n → j ≢ a → f j ≡ 0) → sum_of f (count s n) ≡ f a
sum_only f s zero a l h g = absurd (omega arith)
sum_only f s (suc n) a l h g =
    same s a
    (λ q. rw q (ap (λ (k : ℕ). f a + k) (sum_none f (suc a) n (λ j u v. g j (omega arith) (omega arith) (λ z. omega arith))) ∙ add-zero (f a)))
    (λ q. ap₂ ◌+◌ (g s (omega arith) (omega arith) q)
    (sum_only f (suc s) n a (omega arith) (omega arith) (λ j u v. g j (omega arith) (omega arith))) ∙ zero-add (f a))

-- a test fails on the run but at one number
pub any_only : (f : ℕ → Bool) (s n b : ℕ) → s ≤ b → b < s + n → ((j : ℕ) → s ≤ j → j < s + n → j ≢ b → f j ≡ false) → any f (count s n) ≡ f b
any_only f s n b l h g =
    test (f b) (λ p. at_any f s n b l h p ∙ sym p)
    (λ p. none_any f s n (λ j u v. same j b (λ q. rw q p) (λ q. g j u v q)) ∙ sym p)

-- ---- a run from its front, as a loop counts: from j to n - 1

pub run_turn : (n j : ℕ) → j < n → count j (n - j) ≡ j ∷ count (j + 1) (n - (j + 1))
run_turn n j h = let e : n - j ≡ suc (n - (j + 1)) = omega arith in let z : suc j ≡ j + 1 = omega arith in rw (e, z)

pub run_end : (n j : ℕ) → n ≤ j → count j (n - j) ≡ []
run_end n j h = let e : n - j ≡ 0 = omega arith in rw e

-- from j to m itself
pub count_turn : (j m : ℕ) → j ≤ m → count j (m + 1 - j) ≡ j ∷ count (j + 1) (m + 1 - (j + 1))
count_turn j m h = run_turn (m + 1) j (omega arith)

pub count_end : (j m : ℕ) → m < j → count j (m + 1 - j) ≡ []
count_end j m h = run_end (m + 1) j (omega arith)

pub count_all : (m : ℕ) → count 1 (m + 1 - 1) ≡ count 1 m
count_all m = let e : m + 1 - 1 ≡ m = omega arith in rw e
