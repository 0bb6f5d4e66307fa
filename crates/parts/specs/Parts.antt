-- What the pairs leave in the scratch slices.
use Rattle.std.specs.Prelude.{List, [], ◌∷◌, ℤ}
use Rattle.table.specs.Table.{Table, Pair}
use Rattle.clause.specs.declared.Side.{Side}
use Rattle.clause.specs.Ends.{Which}
use Rattle.soft.specs.Scratch.{scratch_with}

-- what the pairs leave in the scratch slice of an end, one after the other
abbrev pub scratch_through : Side → Which → Table → List Pair → List ℤ → List ℤ
scratch_through s w t [] old = old
scratch_through s w t (p ∷ ps) old = scratch_through s w t ps (scratch_with s w t p old)
