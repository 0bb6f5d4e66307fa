-- The house sheet of a table and its two choices, line by line in document 01's order.
use Rattle.std.specs.Prelude.{ℕ, length}
use mathlib.Core.List.{List, ◌++◌, flat_map}
use Rattle.clause.specs.declared.Hard.{Hard}
use Rattle.clause.specs.declared.Side.{Side}
use Rattle.lists.specs.Lists.{nth}
use Rattle.table.specs.Table.{Pair, Table, boxes}
use Rattle.text_out.specs.Texts.{line_of, row_of}
use Rattle.sheet.specs.Keys.{boxes_key, values_key, pairs_key, first_key, second_key, weight_key, allow_key, hard_line_lem, side_line_lem}

-- a values line for each box
unfoldable pub values_text : List ℕ → List ℕ
unfolding flat_map
values_text sizes = flat_map (line_of values_key) sizes

-- an allow line for each mask, with a character for each of m values
unfoldable pub rows_text : ℕ → List ℕ → List ℕ
unfolding flat_map
rows_text m masks = flat_map (row_of allow_key m) masks

-- a pair's boxes and weight
unfoldable pub head_text : ℕ → ℕ → ℕ → List ℕ
head_text first second weight = line_of first_key first ++ (line_of second_key second ++ line_of weight_key weight)

-- a pair among boxes of these sizes
unfoldable pub pair_text : List ℕ → Pair → List ℕ
pair_text sizes p = head_text p.first p.second p.weight ++ rows_text (nth sizes p.second) p.masks

unfoldable pub pairs_text : List ℕ → List Pair → List ℕ
unfolding flat_map
pairs_text sizes ps = flat_map (pair_text sizes) ps

-- boxes, values, pairs, and then pair by pair
unfoldable pub body_text : Table → List ℕ
body_text t =
    line_of boxes_key (boxes t) ++ (values_text t.sizes ++ (line_of pairs_key (length t.pairs) ++ pairs_text t.sizes t.pairs))

unfoldable pub sheet_text : Hard → Side → Table → List ℕ
sheet_text h s t = hard_line_lem h ++ (side_line_lem s ++ body_text t)
