-- `all`, `any` and `sum_of` over ++, map, flat_map and the entries that pass a test; `Each` by index.
use mathlib.Core.Path.{◌≡◌, refl, sym, ap, ◌∙◌}
use Prim.Native.Nat.{ℕ, zero, suc, ◌+◌, ◌<◌}
use native.Mathlib.Nat.{add_assoc, zero-add}
use native.Mathlib.Omega.{arith}
use lib.ListN.{length, get_or}
use mathlib.Core.Bool.{Bool, true, false, ◌&&◌, ◌||◌, and_assoc, or_assoc}
use mathlib.Core.List.{List, [], ◌∷◌, ◌++◌, map, flat_map, append_assoc}
use Rattle.lists.specs.Lists.{all, any, those, sum_of, Each}
use Rattle.lists.proofs.Truth.{test}

module _ {A : Type 0} where
  pub all_append : (f : A → Bool) (k l : List A) → all f (k ++ l) ≡ (all f k && all f l)
  all_append f [] l = refl
  all_append f (a ∷ k) l = ap (λ (t : Bool). f a && t) (all_append f k l) ∙ sym (and_assoc (f a) (all f k) (all f l))

  pub any_append : (f : A → Bool) (k l : List A) → any f (k ++ l) ≡ (any f k || any f l)
  any_append f [] l = refl
  any_append f (a ∷ k) l = ap (λ (t : Bool). f a || t) (any_append f k l) ∙ sym (or_assoc (f a) (any f k) (any f l))

  pub sum_append : (f : A → ℕ) (k l : List A) → sum_of f (k ++ l) ≡ sum_of f k + sum_of f l
  sum_append f [] l = sym (zero-add (sum_of f l))
  sum_append f (a ∷ k) l = ap (λ (n : ℕ). f a + n) (sum_append f k l) ∙ sym (add_assoc (f a) (sum_of f k) (sum_of f l))

  -- a test that does not look at the entries
  pub all_or : (o : Bool) (f : A → Bool) (l : List A) → all (λ a. o || f a) l ≡ (o || all f l)
  all_or true f [] = refl
  all_or true f (a ∷ l) = all_or true f l
  all_or false f l = refl

module _ {A B : Type 0} where
  pub all_map : (f : B → Bool) (g : A → B) (l : List A) → all f (map g l) ≡ all (λ a. f (g a)) l
  all_map f g [] = refl
  all_map f g (a ∷ l) = ap (λ (t : Bool). f (g a) && t) (all_map f g l)

  pub any_map : (f : B → Bool) (g : A → B) (l : List A) → any f (map g l) ≡ any (λ a. f (g a)) l
  any_map f g [] = refl
  any_map f g (a ∷ l) = ap (λ (t : Bool). f (g a) || t) (any_map f g l)

  pub sum_map : (f : B → ℕ) (g : A → B) (l : List A) → sum_of f (map g l) ≡ sum_of (λ a. f (g a)) l
  sum_map f g [] = refl
  sum_map f g (a ∷ l) = ap (λ (n : ℕ). f (g a) + n) (sum_map f g l)

  pub all_flat : (f : B → Bool) (g : A → List B) (l : List A) → all f (flat_map g l) ≡ all (λ a. all f (g a)) l
  unfolding flat_map
  all_flat f g [] = refl
  all_flat f g (a ∷ l) = all_append f (g a) (flat_map g l) ∙ ap (λ (t : Bool). all f (g a) && t) (all_flat f g l)

  pub sum_flat : (f : B → ℕ) (g : A → List B) (l : List A) → sum_of f (flat_map g l) ≡ sum_of (λ a. sum_of f (g a)) l
  unfolding flat_map
  sum_flat f g [] = refl
  sum_flat f g (a ∷ l) = sum_append f (g a) (flat_map g l) ∙ ap (λ (n : ℕ). sum_of f (g a) + n) (sum_flat f g l)

pub flat_append : {A B : Type 0} (g : A → List B) (k l : List A) → flat_map g (k ++ l) ≡ flat_map g k ++ flat_map g l
unfolding flat_map
flat_append g [] l = refl
flat_append g (a ∷ k) l = ap (λ (m : List _). g a ++ m) (flat_append g k l) ∙ sym (append_assoc (g a) (flat_map g k) (flat_map g l))

-- what passes one test and then another somewhere
pub any_those : {A : Type 0} (f g : A → Bool) (l : List A) → any f (those g l) ≡ any (λ a. g a && f a) l
any_those f g [] = refl
any_those f g (a ∷ l) =
    test (g a) (λ p. rw p (ap (λ (t : Bool). f a || t) (any_those f g l))) (λ p. rw p (any_those f g l))

-- ---- by index

module _ {A : Type 0} where
  -- P holds of each entry if it holds at each index, and the other way round
  pub at_each : (P : A → Type 0) (d : A) (l : List A) → ((i : ℕ) → i < length l → P (get_or l i d)) → Each P l
  at_each P d [] g = tt
  at_each P d (a ∷ l) g = (g 0 (omega arith), at_each P d l (λ i h. g (suc i) (omega arith)))

  pub each_at : (P : A → Type 0) (d : A) (l : List A) → Each P l → (i : ℕ) → i < length l → P (get_or l i d)
  each_at P d [] e i h = absurd (omega arith)
  each_at P d (a ∷ l) (p, ps) zero h = p
  each_at P d (a ∷ l) (p, ps) (suc i) h = each_at P d l ps i (omega arith)
