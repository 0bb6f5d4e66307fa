-- A buffer that was cleared.
use Rattle.std.specs.Prelude.{List, [], ◌∷◌, ℤ, pos}

-- as many zeros as the list has entries
abbrev pub zeros : List ℤ → List ℤ
zeros [] = []
zeros (a ∷ l) = pos 0 ∷ zeros l
