-- The rows of a made list, values and thresholds alike: which variables of a box, and which of them are 1.
use Rattle.std.specs.Prelude.{ℕ, Bool, List, eqb, leb}
use Rattle.table.specs.Table.{Table}
use Rattle.clause.specs.declared.Hard.TheVariants.{Regular}
use Rattle.decoder.specs.Lists.{value_row, step_row, value_bits, step_bits}
use Rattle.maker.specs.declared.Part.{Part}
use Rattle.maker.specs.declared.Part.TheVariants.{Values, Thresholds}

-- a box has values 1 .. m and thresholds 2 .. m
abbrev pub first_in : Part → ℕ
first_in Values = 1
first_in Thresholds = 2

-- in a box that holds a: value a alone, and the thresholds up to a
abbrev pub due_in : Part → (j a : ℕ) → Bool
due_in Values j a = eqb j a
due_in Thresholds j a = leb j a

-- the row of a box of m values that holds a
abbrev pub row_of : Part → (m a : ℕ) → List ℕ
row_of Values m a = value_row m a
row_of Thresholds m a = step_row m a

-- the rows of all boxes
abbrev pub rows_of : Part → Table → List ℕ → List ℕ
rows_of Values t plan = value_bits t plan
rows_of Thresholds t plan = step_bits Regular t plan
