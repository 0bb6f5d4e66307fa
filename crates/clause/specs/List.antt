-- The clause list of a table: the hard part box by box, then the soft part pair by pair.
use Rattle.std.specs.Prelude.{ℕ, suc}
use mathlib.Core.List.{List, [], ◌∷◌, ◌++◌, flat_map}
use Rattle.lists.specs.Lists.{count}
use Rattle.table.specs.Table.{Table, Pair, boxes}
use Rattle.clause.specs.declared.Hard.{Hard}
use Rattle.clause.specs.declared.Side.{Side}
use Rattle.clause.specs.Clause.{plus, minus, Clause, Weighted, weigh}
use Rattle.clause.specs.Numbers.{c}
use Rattle.clause.specs.Hard.{box_clauses}
use Rattle.clause.specs.Soft.{soft}

unfoldable pub hard_part : Hard → Table → List Clause
unfolding flat_map
hard_part h t = flat_map (box_clauses h t) (count 1 (boxes t))

-- the clauses of pair number k
unfoldable pub pair_clauses : Hard → Side → Table → ℕ → Pair → List Clause
pair_clauses h s t k p = soft s t (plus (c t h k) ∷ []) (minus (c t h k) ∷ []) p

-- pair by pair, the first of them number k
unfoldable pub soft_from : Hard → Side → Table → ℕ → List Pair → List Weighted
soft_from h s t k [] = []
soft_from h s t k (p ∷ ps) = weigh p.weight (pair_clauses h s t k p) ++ soft_from h s t (suc k) ps

unfoldable pub soft_part : Hard → Side → Table → List Weighted
soft_part h s t = soft_from h s t 1 t.pairs

unfoldable pub clauses : Hard → Side → Table → List Weighted
clauses h s t = weigh 0 (hard_part h t) ++ soft_part h s t
