-- The few functions on lists that the definitions are built from.
use Rattle.std.specs.Prelude.{ℕ, zero, suc, ◌+◌, ◌-◌, Bool, true, false, cond, ◌&&◌, ◌||◌, List, [], ◌∷◌, get_or, take}

-- n numbers, rising from a: count 1 3 is 1, 2, 3
abbrev pub count : ℕ → ℕ → List ℕ
count a zero = []
count a (suc n) = a ∷ count (suc a) n

-- entry number b, counting from 1
abbrev pub nth : List ℕ → ℕ → ℕ
nth l b = get_or l (b - 1) 0

module _ {A : Type 0} where
  abbrev pub all : (A → Bool) → List A → Bool
  all f [] = true
  all f (a ∷ l) = f a && all f l

  abbrev pub any : (A → Bool) → List A → Bool
  any f [] = false
  any f (a ∷ l) = f a || any f l

  -- the entries that pass the test
  abbrev pub those : (A → Bool) → List A → List A
  those f [] = []
  those f (a ∷ l) = cond (f a) (a ∷ those f l) (those f l)

  abbrev pub sum_of : (A → ℕ) → List A → ℕ
  sum_of f [] = 0
  sum_of f (a ∷ l) = f a + sum_of f l

  -- P holds of each entry
  abbrev pub Each : (A → Type 0) → List A → Type 0
  Each P [] = Unit {0}
  Each P (a ∷ l) = P a × Each P l

-- the sum of the entries before number b, counting from 1
unfoldable pub before : List ℕ → ℕ → ℕ
before l b = sum_of (λ m. m) (take (b - 1) l)
