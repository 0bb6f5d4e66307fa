-- The text part by part: the lines of a box, the lines of a pair.
use Rattle.std.specs.Prelude.{ℕ, suc}
use mathlib.Core.List.{List, [], ◌∷◌, ◌++◌, flat_map}
use Rattle.lists.specs.Lists.{count}
use Rattle.table.specs.Table.{Table, Pair, boxes}
use Rattle.clause.specs.declared.Hard.{Hard}
use Rattle.clause.specs.declared.Side.{Side}
use Rattle.clause.specs.Hard.{box_clauses}
use Rattle.clause.specs.List.{pair_clauses}
use Rattle.clause.specs.Lengths.{clause_count, top}
use Rattle.clause.specs.Numbers.{variables}
use Rattle.wcnf.specs.Wcnf.{header_text, lines_of}

abbrev pub box_text : Hard → Table → ℕ → List ℕ
box_text h t b = lines_of (top t) (box_clauses h t b)

-- pair number k
abbrev pub pair_text : Hard → Side → Table → ℕ → Pair → List ℕ
pair_text h s t k p = lines_of p.weight (pair_clauses h s t k p)

-- pair by pair, the first of them number k
abbrev pub pairs_text : Hard → Side → Table → ℕ → List Pair → List ℕ
pairs_text h s t k [] = []
pairs_text h s t k (p ∷ ps) = pair_text h s t k p ++ pairs_text h s t (suc k) ps

-- the header, the boxes and the pairs in order
unfoldable pub in_parts : Hard → Side → Table → List ℕ
unfolding flat_map
in_parts h s t =
    header_text (variables t h s) (clause_count h s t) (top t) ++ (flat_map (box_text h t) (count 1 (boxes t)) ++ pairs_text h s t 1 t.pairs)
