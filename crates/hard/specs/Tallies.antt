-- How many clauses and literals the hard part of a box has. They do not depend on its variables (proofs/Tallies.antt), so any will do.
use Rattle.std.specs.Prelude.{ℕ, List, length}
use Rattle.clause.specs.declared.Hard.{Hard}
use Rattle.clause.specs.Clause.{Clause, literals_in}
use Rattle.clause.specs.Hard.{box_with}
use Rattle.hard.specs.declared.Tally.{Tally}

abbrev pub tally_of : List Clause → Tally
tally_of cs = record { clauses = length cs; literals = literals_in cs }

abbrev pub box_tally_lem : Hard → ℕ → Tally
box_tally_lem hard m = tally_of (box_with hard 0 0 m)
