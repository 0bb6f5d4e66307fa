-- A regular box, piece by piece, and its clauses in the code's numbers.
use mathlib.Core.Path.{◌≡◌, refl}
use mathlib.Core.List.{[], ◌∷◌, ◌++◌, map, flat_map}
use Prim.Native.Nat.{ℕ, zero, suc, ◌+◌, ◌-◌, ◌≤◌, ◌<◌}
use native.Mathlib.Omega.{arith}
use lib.ListN.{length, length-append}
use Rattle.lists.specs.Lists.{count}
use Rattle.clause.specs.Clause.{plus, minus, closed, entries_of}
use Rattle.clause.specs.Numbers.{value_from, step_from}
use Rattle.clause.specs.Hard.{one_of, chain_at, lowest, between, highest, regular_box}
use Rattle.clause.proofs.Lengths.{entries_of_append}
use Rattle.standard.proofs.Texts.{text_turn}
use Rattle.regular.specs.Thresholds.{chain, all_between}

module _ (x r : ℕ → ℕ) where
  -- one value: its variable alone, which is the clause of all values
  pub single_text : (m : ℕ) → m ≡ 1 → entries_of (regular_box x r m) ≡ closed (one_of x m)
  unfolding regular_box entries_of flat_map
  single_text m e = rw e

  pub regular_text : (m : ℕ) → 2 ≤ m
      → entries_of (regular_box x r m)
      ≡ entries_of (chain r m) ++ (entries_of (lowest x r) ++ (entries_of (all_between x r m) ++ entries_of (highest x r m)))
  unfolding regular_box
  regular_text zero h = absurd (omega arith)
  regular_text (suc zero) h = absurd (omega arith)
  regular_text (suc (suc k)) h = let z : suc (suc k) - 2 ≡ k = omega arith in rw z (simp entries_of_append)

  pub regular_size : (m : ℕ) → 2 ≤ m
      → length (entries_of (regular_box x r m))
      ≡ length (entries_of (chain r m))
      + (length (entries_of (lowest x r)) + (length (entries_of (all_between x r m)) + length (entries_of (highest x r m))))
  regular_size m h = rw (regular_text m h) (simp length-append)

-- the chain's turn, in the code's numbers
pub chain_turn : (s n j : ℕ) → j < n
    → entries_of (map (chain_at (step_from s)) (count j (n - j)))
    ≡ closed (minus (s + (j - 1)) ∷ plus (s + (j - 2)) ∷ []) ++ entries_of (map (chain_at (step_from s)) (count (j + 1) (n - (j + 1))))
unfolding chain_at
chain_turn s n j h = let z : j - 1 - 1 ≡ j - 2 = omega arith in rw (← z) (text_turn (chain_at (step_from s)) n j h)

-- the two clauses of the lowest value and of the highest, in the code's numbers
pub lowest_text : (v s : ℕ)
    → entries_of (lowest (value_from v) (step_from s)) ≡ closed (minus (v + 1) ∷ minus (s + 1) ∷ []) ++ closed (plus (v + 1) ∷ plus (s + 1) ∷ [])
unfolding lowest entries_of flat_map
lowest_text v s = refl

pub highest_text : (v s m : ℕ)
    → entries_of (highest (value_from v) (step_from s) m)
    ≡ closed (minus (v + m) ∷ plus (s + (m - 1)) ∷ []) ++ closed (plus (v + m) ∷ minus (s + (m - 1)) ∷ [])
unfolding highest entries_of flat_map
highest_text v s m = refl

-- the three clauses of a value between, in the code's numbers
pub between_text : (v s j : ℕ)
    → entries_of (between (value_from v) (step_from s) j)
    ≡ closed (minus (v + j) ∷ plus (s + (j - 1)) ∷ [])
    ++ (closed (minus (v + j) ∷ minus (s + j) ∷ []) ++ closed (plus (v + j) ∷ minus (s + (j - 1)) ∷ plus (s + j) ∷ []))
unfolding between entries_of flat_map
between_text v s j = let z : suc j - 1 ≡ j = omega arith in rw z
