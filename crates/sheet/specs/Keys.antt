-- The keys of the sheet's lines, and the lines of the two choices.
use Rattle.std.specs.Prelude.{ℕ, List, [], ◌∷◌}
use Rattle.clause.specs.declared.Hard.{Hard}
use Rattle.clause.specs.declared.Hard.TheVariants.{Standard, Regular}
use Rattle.clause.specs.declared.Side.{Side}
use Rattle.clause.specs.declared.Side.TheVariants.{Direct, Support, First, Literals, Score}

-- boxes=
abbrev pub boxes_key : List ℕ
boxes_key = 98 ∷ 111 ∷ 120 ∷ 101 ∷ 115 ∷ 61 ∷ []

-- values=
abbrev pub values_key : List ℕ
values_key = 118 ∷ 97 ∷ 108 ∷ 117 ∷ 101 ∷ 115 ∷ 61 ∷ []

-- pairs=
abbrev pub pairs_key : List ℕ
pairs_key = 112 ∷ 97 ∷ 105 ∷ 114 ∷ 115 ∷ 61 ∷ []

-- first=
abbrev pub first_key : List ℕ
first_key = 102 ∷ 105 ∷ 114 ∷ 115 ∷ 116 ∷ 61 ∷ []

-- second=
abbrev pub second_key : List ℕ
second_key = 115 ∷ 101 ∷ 99 ∷ 111 ∷ 110 ∷ 100 ∷ 61 ∷ []

-- weight=
abbrev pub weight_key : List ℕ
weight_key = 119 ∷ 101 ∷ 105 ∷ 103 ∷ 104 ∷ 116 ∷ 61 ∷ []

-- allow=
abbrev pub allow_key : List ℕ
allow_key = 97 ∷ 108 ∷ 108 ∷ 111 ∷ 119 ∷ 61 ∷ []

-- hard=standard or hard=regular, and a line feed
unfoldable pub hard_line_lem : Hard → List ℕ
hard_line_lem Standard = 104 ∷ 97 ∷ 114 ∷ 100 ∷ 61 ∷ 115 ∷ 116 ∷ 97 ∷ 110 ∷ 100 ∷ 97 ∷ 114 ∷ 100 ∷ 10 ∷ []
hard_line_lem Regular = 104 ∷ 97 ∷ 114 ∷ 100 ∷ 61 ∷ 114 ∷ 101 ∷ 103 ∷ 117 ∷ 108 ∷ 97 ∷ 114 ∷ 10 ∷ []

-- side= with one of five words, and a line feed
unfoldable pub side_line_lem : Side → List ℕ
side_line_lem Direct = 115 ∷ 105 ∷ 100 ∷ 101 ∷ 61 ∷ 100 ∷ 105 ∷ 114 ∷ 101 ∷ 99 ∷ 116 ∷ 10 ∷ []
side_line_lem Support = 115 ∷ 105 ∷ 100 ∷ 101 ∷ 61 ∷ 115 ∷ 117 ∷ 112 ∷ 112 ∷ 111 ∷ 114 ∷ 116 ∷ 10 ∷ []
side_line_lem First = 115 ∷ 105 ∷ 100 ∷ 101 ∷ 61 ∷ 102 ∷ 105 ∷ 114 ∷ 115 ∷ 116 ∷ 10 ∷ []
side_line_lem Literals = 115 ∷ 105 ∷ 100 ∷ 101 ∷ 61 ∷ 108 ∷ 105 ∷ 116 ∷ 101 ∷ 114 ∷ 97 ∷ 108 ∷ 115 ∷ 10 ∷ []
side_line_lem Score = 115 ∷ 105 ∷ 100 ∷ 101 ∷ 61 ∷ 115 ∷ 99 ∷ 111 ∷ 114 ∷ 101 ∷ 10 ∷ []

-- document 01's numbers of the hard parts and the sides
abbrev pub hard_number : Hard → ℕ
hard_number Standard = 0
hard_number Regular = 1

abbrev pub side_number : Side → ℕ
side_number Direct = 1
side_number Support = 2
side_number First = 3
side_number Literals = 4
side_number Score = 5
