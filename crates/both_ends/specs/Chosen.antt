-- The clauses of the end that is taken.
use Rattle.std.specs.Prelude.{Bool, true, false, List, []}
use Rattle.clause.specs.declared.Side.{Side}
use Rattle.clause.specs.declared.Side.TheVariants.{Literals, Score}
use Rattle.clause.specs.Clause.{Clause}
use Rattle.clause.specs.Ends.{End}
use Rattle.clause.specs.Soft.{soft_with}

-- the two sides that choose: by score, and by literals
abbrev pub choosing : Bool → Side
choosing true = Score
choosing false = Literals

abbrev pub chosen : Bool → End → End → List Clause
chosen s a b = soft_with (choosing s) a b [] []
