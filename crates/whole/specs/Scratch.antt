-- What is left in a scratch slice after use.
use Rattle.std.specs.Prelude.{List, ℤ}
use Rattle.clause.specs.declared.Side.{Side}
use Rattle.clause.specs.declared.Side.TheVariants.{Direct, Support, First, Literals, Score}
use Rattle.fills.specs.Zeros.{zeros}

-- zero whole on the sides that choose, untouched on the others
abbrev pub scratch_left : Side → List ℤ → List ℤ
scratch_left Direct old = old
scratch_left Support old = old
scratch_left First old = old
scratch_left Literals old = zeros old
scratch_left Score old = zeros old
