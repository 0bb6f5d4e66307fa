-- The text of an end's direct clauses, and how many these are: with the values that support a value they make up all of the other box's.
use mathlib.Core.Path.{◌≡◌, refl, ap}
use mathlib.Core.Bool.{true, false}
use mathlib.Core.List.{List, [], ◌∷◌, ◌++◌, flat_map}
use Prim.Native.Nat.{ℕ, ◌+◌, ◌^◌, ◌<◌}
use native.Mathlib.Omega.{arith}
use lib.ListN.{length}
use lib.IntN.{pos}
use Rattle.lists.specs.Lists.{count, those}
use Rattle.lists.proofs.Truth.{test}
use Rattle.lists.proofs.Blocks.{length_count}
use Rattle.clause.specs.Clause.{entries_of}
use Rattle.clause.specs.Numbers.{value_from}
use Rattle.clause.specs.Ends.{End, supports, direct_at, direct_row, direct_clauses}
use Rattle.puts.specs.Signed.{neg}
use Rattle.ends.proofs.Values.{flat_from, flat_all}
use Rattle.ends.proofs.Ends.{supports_length}
use Rattle.ends.proofs.Texts.{entries_one, text_from}
use Rattle.clause.proofs.Lengths.{entries_of_none}

-- ---- as they are written

module _ (e : End) (j i : ℕ) where
  pub allowed_text : e.ok j i ≡ true → entries_of (direct_at e j i) ≡ []
  unfolding direct_at
  allowed_text p = rw p entries_of_none

  pub forbidden_text : e.ok j i ≡ false
      → entries_of (direct_at e j i) ≡ (neg (value_from e.own j) ∷ []) ++ ((neg (value_from e.other i) ∷ []) ++ (pos 0 ∷ []))
  unfolding direct_at
  forbidden_text p = rw p (entries_one _)

  -- room for its clause is room for its three entries
  pub forbidden_room : (at : ℕ) → e.ok j i ≡ false → at + length (entries_of (direct_at e j i)) < 2 ^ 64 → at + 3 < 2 ^ 64
  forbidden_room at p h = rw (forbidden_text p) at h

pub row_text : (e : End) (j : ℕ) → text_from (direct_at e j) e.theirs 1 ≡ entries_of (direct_row e j)
unfolding direct_row
row_text e j = ap entries_of (flat_all (direct_at e j) e.theirs)

pub direct_text : (e : End) → text_from (direct_row e) e.mine 1 ≡ entries_of (direct_clauses e)
unfolding direct_clauses
direct_text e = ap entries_of (flat_all (direct_row e) e.mine)

-- ---- counted

split : (e : End) (j : ℕ) (l : List ℕ) → length (flat_map (direct_at e j) l) + length (those (e.ok j) l) ≡ length l
unfolding flat_map direct_at
split e j [] = refl
split e j (i ∷ l) =
    test (e.ok j i) (λ p. rw p (omega (arith, split e j l))) (λ p. rw p (omega (arith, split e j l)))

pub row_split : (e : End) (j : ℕ) → length (direct_row e j) + length (supports e j) ≡ e.theirs
unfolding direct_row
row_split e j = omega (arith, split e j (count 1 e.theirs), supports_length e j, length_count 1 e.theirs)

pub direct_length : (e : End) → length (flat_from (direct_row e) e.mine 1) ≡ length (direct_clauses e)
unfolding direct_clauses
direct_length e = ap length (flat_all (direct_row e) e.mine)
