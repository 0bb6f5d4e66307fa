-- The hard part of one box with m values: x j is the variable of value j, r j that of "at least j".
use Rattle.std.specs.Prelude.{ℕ, zero, suc, ◌-◌}
use mathlib.Core.List.{List, [], ◌∷◌, ◌++◌, map, flat_map}
use Rattle.lists.specs.Lists.{count}
use Rattle.table.specs.Table.{Table, size}
use Rattle.clause.specs.declared.Hard.{Hard}
use Rattle.clause.specs.declared.Hard.TheVariants.{Standard, Regular}
use Rattle.clause.specs.Clause.{plus, minus, Clause}
use Rattle.clause.specs.Numbers.{value_from, step_from, value_base_lem, step_base_lem}

-- x_1 or .. or x_m
abbrev pub one_of : (ℕ → ℕ) → ℕ → Clause
one_of x m = map (λ j. plus (x j)) (count 1 m)

-- not x_j or not x_k
abbrev pub not_both : (ℕ → ℕ) → ℕ → ℕ → Clause
not_both x j k = minus (x j) ∷ minus (x k) ∷ []

-- x_1 or .. or x_m; then for each j < k, rising: not x_j or not x_k
unfoldable pub standard_box : (ℕ → ℕ) → ℕ → List Clause
unfolding flat_map
standard_box x m = one_of x m ∷ flat_map (λ j. map (not_both x j) (count (suc j) (m - j))) (count 1 m)

-- the chain: not r_j or r_(j-1)
unfoldable pub chain_at : (ℕ → ℕ) → ℕ → Clause
chain_at r j = minus (r j) ∷ plus (r (j - 1)) ∷ []

-- value 1
unfoldable pub lowest : (ℕ → ℕ) → (ℕ → ℕ) → List Clause
lowest x r = (minus (x 1) ∷ minus (r 2) ∷ []) ∷ (plus (x 1) ∷ plus (r 2) ∷ []) ∷ []

-- a value strictly between
unfoldable pub between : (ℕ → ℕ) → (ℕ → ℕ) → ℕ → List Clause
between x r j =
    (minus (x j) ∷ plus (r j) ∷ [])
    ∷ (minus (x j) ∷ minus (r (suc j)) ∷ [])
    ∷ (plus (x j) ∷ minus (r j) ∷ plus (r (suc j)) ∷ [])
    ∷ []

-- value m
unfoldable pub highest : (ℕ → ℕ) → (ℕ → ℕ) → ℕ → List Clause
highest x r m = (minus (x m) ∷ plus (r m) ∷ []) ∷ (plus (x m) ∷ minus (r m) ∷ []) ∷ []

-- one value: its variable alone; two and more: the chain for 3 .. m, then the links, values rising.
-- (No value: the empty clause, as in the standard part. No accepted table has such a box.)
unfoldable pub regular_box : (ℕ → ℕ) → (ℕ → ℕ) → ℕ → List Clause
unfolding flat_map
regular_box x r zero = [] ∷ []
regular_box x r (suc zero) = (plus (x 1) ∷ []) ∷ []
regular_box x r (suc (suc k)) =
    map (chain_at r) (count 3 k) ++ (lowest x r ++ (flat_map (between x r) (count 2 k) ++ highest x r (suc (suc k))))

-- a box with m values, whose values' variables come after the first v ones and its thresholds' after the first s
unfoldable pub box_with : Hard → (v s m : ℕ) → List Clause
box_with Standard v s m = standard_box (value_from v) m
box_with Regular v s m = regular_box (value_from v) (step_from s) m

-- the hard clauses of box b
unfoldable pub box_clauses : Hard → Table → ℕ → List Clause
box_clauses h t b = box_with h (value_base_lem t b) (step_base_lem t b) (size t b)
