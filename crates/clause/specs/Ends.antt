-- A pair seen from either of its ends, and the clauses that it gives from there.
use Rattle.std.specs.Prelude.{ℕ, Bool, cond}
use mathlib.Core.List.{List, [], ◌∷◌, ◌++◌, map, flat_map}
use Rattle.lists.specs.Lists.{count, all, those}
use Rattle.table.specs.Table.{Table, Pair, size, allowed}
use Rattle.clause.specs.Clause.{plus, minus, Clause}
use Rattle.clause.specs.Numbers.{value_from, value_base_lem}

-- A pair seen from one of its boxes: how many variables stand before that box's values, and how many these are; the same of the
-- other box; and which values go together.
pub record End : Type 0 where
  pub own : ℕ
  pub mine : ℕ
  pub other : ℕ
  pub theirs : ℕ
  pub ok : ℕ → ℕ → Bool

pub data Which : Type 0 where
  one two : Which

unfoldable pub end : Table → Pair → Which → End
end t p one =
    record {
      own = value_base_lem t p.first;
      mine = size t p.first;
      other = value_base_lem t p.second;
      theirs = size t p.second;
      ok = allowed p;
    }
end t p two =
    record {
      own = value_base_lem t p.second;
      mine = size t p.second;
      other = value_base_lem t p.first;
      theirs = size t p.first;
      ok = λ j i. allowed p i j;
    }

-- ---- direct

unfoldable pub direct_at : End → ℕ → ℕ → List Clause
direct_at e i j = cond (e.ok i j) [] ((minus (value_from e.own i) ∷ minus (value_from e.other j) ∷ []) ∷ [])

-- the clauses of the end's value i
unfoldable pub direct_row : End → ℕ → List Clause
unfolding flat_map
direct_row e i = flat_map (direct_at e i) (count 1 e.theirs)

-- for each pair of values not allowed, first value then second rising
unfoldable pub direct_clauses : End → List Clause
unfolding flat_map
direct_clauses e = flat_map (direct_row e) (count 1 e.mine)

-- ---- support

-- the values of the other box that support value j, as literals
unfoldable pub supports : End → ℕ → Clause
supports e j = map (λ i. plus (value_from e.other i)) (those (e.ok j) (count 1 e.theirs))

-- every value of the other box supports value j: then it has no clause
unfoldable pub full : End → ℕ → Bool
full e j = all (e.ok j) (count 1 e.theirs)

-- value j's clause: not x_j, its supporting values in the other box rising, then `tail`
unfoldable pub support_at : End → Clause → ℕ → List Clause
support_at e tail j = cond (full e j) [] ((minus (value_from e.own j) ∷ (supports e j ++ tail)) ∷ [])

-- the support clauses of an end's values
unfoldable pub support_clauses : End → Clause → List Clause
unfolding flat_map
support_clauses e tail = flat_map (support_at e tail) (count 1 e.mine)
