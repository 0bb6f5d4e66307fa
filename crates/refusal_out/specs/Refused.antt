-- What the programs print of a refusal: document 01's line.
use Rattle.std.specs.Prelude.{ℕ, List, [], ◌∷◌, ◌++◌}
use Rattle.lists.specs.Decimal.{digits}
use Rattle.refusal.specs.declared.Refusal.{Refusal}
use Rattle.refusal.specs.Refusals.{number_of, place_of}
use Rattle.text_out.specs.Texts.{line_of}

-- refused=
abbrev pub refused_key : List ℕ
refused_key = 114 ∷ 101 ∷ 102 ∷ 117 ∷ 115 ∷ 101 ∷ 100 ∷ 61 ∷ []

-- a space and place=
abbrev pub place_key : List ℕ
place_key = 32 ∷ 112 ∷ 108 ∷ 97 ∷ 99 ∷ 101 ∷ 61 ∷ []

-- refused=N place=P
unfoldable pub refused_line : Refusal → List ℕ
refused_line f = refused_key ++ (digits (number_of f) ++ line_of place_key (place_of f))
