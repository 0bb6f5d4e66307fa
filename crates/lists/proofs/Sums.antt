-- Sums and lengths of lists whose entries are all alike, or bounded; `Each` over ++, map, flat_map and a run of numbers.
use mathlib.Core.Path.{◌≡◌, refl, ap, ◌∙◌}
use Prim.Native.Nat.{ℕ, zero, suc, ◌+◌, ◌*◌, ◌≤◌}
use native.Mathlib.Omega.{arith}
use mathlib.Core.Bool.{Bool, true, false, cond}
use mathlib.Core.List.{List, [], ◌∷◌, ◌++◌, map, flat_map}
use lib.ListN.{length, replicate, length-append}
use Rattle.lists.specs.Lists.{count, those, sum_of, Each}
use Rattle.lists.proofs.Truth.{test}
use Rattle.lists.proofs.Blocks.{length_count}

module _ {A : Type 0} where
  pub every_each : (P : A → Type 0) → ((a : A) → P a) → (l : List A) → Each P l
  every_each P g [] = tt
  every_each P g (a ∷ l) = (g a, every_each P g l)

  pub each_as : (P Q : A → Type 0) → ((a : A) → P a → Q a) → (l : List A) → Each P l → Each Q l
  each_as P Q f [] e = tt
  each_as P Q f (a ∷ l) (h, e) = (f a h, each_as P Q f l e)

  pub each_append : (P : A → Type 0) (k l : List A) → Each P k → Each P l → Each P (k ++ l)
  each_append P [] l d e = e
  each_append P (a ∷ k) l (h, d) e = (h, each_append P k l d e)

  pub sum_same : (f : A → ℕ) (k : ℕ) (l : List A) → Each (λ a. f a ≡ k) l → sum_of f l ≡ length l * k
  sum_same f k [] e = omega arith
  sum_same f k (a ∷ l) (h, e) = omega (arith, sum_same f k l e)

  pub sum_constant : (k : ℕ) (l : List A) → sum_of (λ a. k) l ≡ length l * k
  sum_constant k l = sum_same (λ a. k) k l (every_each (λ a. k ≡ k) (λ a. refl) l)

  pub sum_plus : (f g : A → ℕ) (l : List A) → sum_of (λ a. f a + g a) l ≡ sum_of f l + sum_of g l
  sum_plus f g [] = refl
  sum_plus f g (a ∷ l) = omega (arith, sum_plus f g l)

  pub sum_most : (f : A → ℕ) (k : ℕ) (l : List A) → Each (λ a. f a ≤ k) l → sum_of f l ≤ length l * k
  sum_most f k [] e = omega arith
  sum_most f k (a ∷ l) (h, e) = omega (arith, sum_most f k l e)

  pub those_length : (f : A → Bool) (l : List A) → length (those f l) ≤ length l
  those_length f [] = omega arith
  those_length f (a ∷ l) = test (f a) (λ p. rw p (omega (arith, those_length f l))) (λ p. rw p (omega (arith, those_length f l)))

module _ {A B : Type 0} where
  pub length_flat : (g : A → List B) (l : List A) → length (flat_map g l) ≡ sum_of (λ a. length (g a)) l
  unfolding flat_map
  length_flat g [] = refl
  length_flat g (a ∷ l) = length-append (g a) (flat_map g l) ∙ ap (λ (n : ℕ). length (g a) + n) (length_flat g l)

  pub each_flat : (P : B → Type 0) (g : A → List B) → ((a : A) → Each P (g a)) → (l : List A) → Each P (flat_map g l)
  unfolding flat_map
  each_flat P g h [] = tt
  each_flat P g h (a ∷ l) = each_append P (g a) (flat_map g l) (h a) (each_flat P g h l)

  pub each_map : (P : B → Type 0) (g : A → B) → ((a : A) → P (g a)) → (l : List A) → Each P (map g l)
  each_map P g h [] = tt
  each_map P g h (a ∷ l) = (h a, each_map P g h l)

-- a sum over a run whose terms are at most k
pub run_most : (f : ℕ → ℕ) (k s n : ℕ) → ((j : ℕ) → f j ≤ k) → sum_of f (count s n) ≤ n * k
run_most f k s n g = rw (length_count s n) at (sum_most f k (count s n) (every_each (λ j. f j ≤ k) g (count s n)))

pub one_most : (o : Bool) → cond o 0 1 ≤ 1
one_most true = omega arith
one_most false = omega arith

-- what holds of an entry holds of each, where it is repeated
pub each_replicate : {A : Type 0} (P : A → Type 0) (a : A) → P a → (n : ℕ) → Each P (replicate n a)
each_replicate P a p zero = tt
each_replicate P a p (suc n) = (p, each_replicate P a p n)

-- ---- over a run of numbers

module _ {B : Type 0} (P : B → Type 0) where
  pub each_map_run : (g : ℕ → B) (s n : ℕ) → ((j : ℕ) → s ≤ j → P (g j)) → Each P (map g (count s n))
  each_map_run g s zero h = tt
  each_map_run g s (suc n) h = (h s (omega arith), each_map_run g (suc s) n (λ j l. h j (omega arith)))

  pub each_flat_run : (g : ℕ → List B) (s n : ℕ) → ((j : ℕ) → s ≤ j → Each P (g j)) → Each P (flat_map g (count s n))
  unfolding flat_map
  each_flat_run g s zero h = tt
  each_flat_run g s (suc n) h = each_append P (g s) _ (h s (omega arith)) (each_flat_run g (suc s) n (λ j l. h j (omega arith)))

  taken : (g : ℕ → B) (o : Bool) (j : ℕ) (l : List ℕ) → P (g j) → Each P (map g l) → Each P (map g (cond o (j ∷ l) l))
  taken g true j l p q = (p, q)
  taken g false j l p q = q

  pub each_those_run : (g : ℕ → B) (f : ℕ → Bool) (s n : ℕ) → ((j : ℕ) → s ≤ j → P (g j)) → Each P (map g (those f (count s n)))
  each_those_run g f s zero h = tt
  each_those_run g f s (suc n) h =
      taken g (f s) s (those f (count (suc s) n)) (h s (omega arith)) (each_those_run g f (suc s) n (λ j l. h j (omega arith)))

  pub each_cond : (o : Bool) (b : B) → P b → Each P (cond o [] (b ∷ []))
  each_cond true b p = tt
  each_cond false b p = (p, tt)
