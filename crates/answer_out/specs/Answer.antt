-- What `decode` prints of a plan with its cost: document 01's lines.
use Rattle.std.specs.Prelude.{ℕ}
use mathlib.Core.List.{List, [], ◌∷◌, ◌++◌, flat_map}
use Rattle.text_out.specs.Texts.{line_of}

-- value=
abbrev pub value_key : List ℕ
value_key = 118 ∷ 97 ∷ 108 ∷ 117 ∷ 101 ∷ 61 ∷ []

-- cost=
abbrev pub cost_key : List ℕ
cost_key = 99 ∷ 111 ∷ 115 ∷ 116 ∷ 61 ∷ []

abbrev pub value_line : ℕ → List ℕ
value_line v = line_of value_key v

abbrev pub cost_line : ℕ → List ℕ
cost_line c = line_of cost_key c

-- a value line for each box
unfoldable pub value_lines : List ℕ → List ℕ
unfolding flat_map
value_lines plan = flat_map value_line plan

-- a value line for each box, and then the cost
unfoldable pub answer_text : List ℕ → ℕ → List ℕ
answer_text plan cost = value_lines plan ++ cost_line cost
