-- The laws of `digits`: its two cases, induction by them, and a digit more.
use Prim.Native.Nat.{ℕ, zero, suc, ◌+◌, ◌*◌, ◌/◌, ◌%◌, ◌^◌, ◌≤◌, ◌<◌}
use native.Mathlib.Nat.{not-suc-le-zero, div-lt_self, div-lt_iff_lt-mul, le_refl, pow-suc}
use native.Mathlib.Omega.{arith}
use mathlib.Core.Bool.{Bool, true, false}
use mathlib.Core.Logic.{◌⊎◌, inl, inr, ⊎_elim}
use mathlib.Core.Path.{◌≡◌, refl, sym, ap, ◌∙◌}
use mathlib.Core.List.{List, [], ◌∷◌, ◌++◌}
use lib.Dec.{ltb}
use lib.ListN.{length, length-append}
use lib.Arith.{digits_div, digits_mod}
use borrow.Author.Tests.{lt-ltb, le-ltb, ltb-true, ltb-false}
use Rattle.lists.specs.Decimal.{fueled, digits}

-- n is below 10 or not
pub small_or_big : (n : ℕ) → (n < 10) ⊎ (10 ≤ n)
small_or_big n = pick (ltb n 10) (ltb-true n 10) (ltb-false n 10)
  where
    pick : (b : Bool) → (b ≡ true → n < 10) → (b ≡ false → 10 ≤ n) → (n < 10) ⊎ (10 ≤ n)
    pick true t f = inl (t refl)
    pick false t f = inr (f refl)

tenth : (n f : ℕ) → 10 ≤ n → n < suc f → n / 10 < f
tenth n f b h = omega (arith, div-lt_self {n = n} {k = 10} (omega arith) (omega arith))

fueled_small : (f n : ℕ) → n < 10 → fueled (suc f) n ≡ (48 + n) ∷ []
unfolding fueled
fueled_small f n h = simp (lt-ltb n 10 h)

fueled_big : (f n : ℕ) → 10 ≤ n → fueled (suc f) n ≡ fueled f (n / 10) ++ ((48 + n % 10) ∷ [])
unfolding fueled
fueled_big f n h = simp (le-ltb n 10 h)

-- any fuel above n gives the same
same : (f g n : ℕ) → n < f → n < g → fueled f n ≡ fueled g n
same zero g n h k = absurd (not-suc-le-zero h)
same (suc f) zero n h k = absurd (not-suc-le-zero k)
same (suc f) (suc g) n h k =
    ⊎_elim
    (λ s. fueled_small f n s ∙ sym (fueled_small g n s))
    (λ b. fueled_big f n b ∙ rw (same f g (n / 10) (tenth n f b h) (tenth n g b k)) (sym (fueled_big g n b)))
    (small_or_big n)

pub digits_small : (n : ℕ) → n < 10 → digits n ≡ (48 + n) ∷ []
unfolding digits
digits_small n h = fueled_small n n h

pub digits_big : (n : ℕ) → 10 ≤ n → digits n ≡ digits (n / 10) ++ ((48 + n % 10) ∷ [])
unfolding digits
digits_big n h =
    fueled_big n n h
    ∙ ap (λ (l : List ℕ). l ++ ((48 + n % 10) ∷ [])) (same n (suc (n / 10)) (n / 10) (tenth n n h (le_refl (suc n))) (le_refl (suc (n / 10))))

-- a number that is not 0, and a digit more
pub digits_more : (n d : ℕ) → 0 < n → d < 10 → digits (n * 10 + d) ≡ digits n ++ ((48 + d) ∷ [])
digits_more n d p h =
    digits_big (n * 10 + d) (omega arith)
    ∙ rw (digits_div n {m = 10} {r = d} h, digits_mod n {m = 10} {r = d} h)

-- induction by the two cases
pub by_digits {ℓ} : (P : ℕ → Type ℓ) → ((n : ℕ) → n < 10 → P n) → ((n : ℕ) → 10 ≤ n → P (n / 10) → P n) → (n : ℕ) → P n
by_digits P small big n = go (suc n) n (le_refl (suc n))
  where
    go : (f n : ℕ) → n < f → P n
    go zero n h = absurd (not-suc-le-zero h)
    go (suc f) n h = ⊎_elim (λ s. small n s) (λ b. big n b (go f (n / 10) (tenth n f b h))) (small_or_big n)

tenth_below : (k n : ℕ) → n < 10 ^ suc (suc k) → n / 10 < 10 ^ suc k
tenth_below k n h = (div-lt_iff_lt-mul {k = 10} (omega arith)).1 (rw pow-suc at h)

-- a number of at most k + 1 digits
pub length_digits : (k n : ℕ) → n < 10 ^ suc k → length (digits n) ≤ suc k
length_digits zero n h = rw (digits_small n h) (omega arith)
length_digits (suc k) n h =
    ⊎_elim
    (λ s. rw (digits_small n s) (omega arith))
    (λ b. rw (digits_big n b, length-append) (omega (arith, length_digits k (n / 10) (tenth_below k n h))))
    (small_or_big n)

pub length_small : (n : ℕ) → n < 10 → length (digits n) ≡ 1
length_small n h = rw (digits_small n h)

pub length_big : (n : ℕ) → 10 ≤ n → length (digits n) ≡ length (digits (n / 10)) + 1
length_big n h = rw (digits_big n h, length-append)
