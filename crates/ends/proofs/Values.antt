-- What a loop over the values j, j + 1, .., m still has to give. And a test counted over a list.
use mathlib.Core.Path.{◌≡◌, refl, ap, ◌∙◌}
use mathlib.Core.Bool.{Bool}
use mathlib.Core.List.{List, [], ◌∷◌, ◌++◌, flat_map}
use Prim.Native.Nat.{ℕ, suc, ◌+◌, ◌-◌, ◌≤◌, ◌<◌}
use native.Mathlib.Omega.{arith}
use lib.ListN.{length, length-append}
use lib.Dec.{eqb, eqb-suc-suc}
use borrow.Author.Tests.{ne_eqb}
use Rattle.lists.specs.Lists.{count, all, those}
use Rattle.lists.proofs.Truth.{test}
use Rattle.lists.proofs.Runs.{count_turn, count_end, count_all}
use Rattle.lists.proofs.Sums.{those_length}

-- what g gives for the values j, j + 1, .., m
abbrev pub flat_from : {A : Type 0} → (ℕ → List A) → ℕ → ℕ → List A
flat_from g m j = flat_map g (count j (m + 1 - j))

module _ {A : Type 0} (g : ℕ → List A) (m : ℕ) where
  pub flat_all : flat_from g m 1 ≡ flat_map g (count 1 m)
  flat_all = rw count_all

  pub flat_turn : (j : ℕ) → j ≤ m → flat_from g m j ≡ g j ++ flat_from g m (j + 1)
  unfolding flat_map
  flat_turn j h = rw (count_turn j m h)

  pub flat_none : (j : ℕ) → m < j → flat_from g m j ≡ []
  unfolding flat_map
  flat_none j h = rw (count_end j m h)

  pub length_turn : (j : ℕ) → j ≤ m → length (flat_from g m j) ≡ length (g j) + length (flat_from g m (j + 1))
  length_turn j h = ap length (flat_turn j h) ∙ length-append (g j) (flat_from g m (j + 1))

module _ {A : Type 0} (f : A → Bool) where
  -- all pass exactly if as many pass as there are
  pub all_those : (l : List A) → all f l ≡ eqb (length (those f l)) (length l)
  all_those [] = refl
  all_those (a ∷ l) =
      test (f a) (λ p. rw (p, eqb-suc-suc) (all_those l))
      (λ p. rw (p, ne_eqb (length (those f l)) (suc (length l)) (λ e. omega (arith, those_length f l))))
