-- How many clauses and literals a pair has on each side.
use Rattle.std.specs.Prelude.{Bool, true, false, [], ◌∷◌}
use Rattle.clause.specs.declared.Side.{Side}
use Rattle.clause.specs.declared.Side.TheVariants.{Support, Literals, Score}
use Rattle.clause.specs.Clause.{plus, minus}
use Rattle.clause.specs.Ends.{End}
use Rattle.clause.specs.Soft.{soft_with}
use Rattle.hard.specs.declared.Tally.{Tally}
use Rattle.hard.specs.Tallies.{tally_of}
use Rattle.choice.specs.declared.EndTally.{EndTally}

abbrev pub bare_tally : EndTally → Tally
bare_tally e = record { clauses = e.clauses; literals = e.literals }

-- the support side: a literal more in each clause
abbrev pub both_tally_lem : End → End → Tally
both_tally_lem a b = tally_of (soft_with Support a b (plus 0 ∷ []) (minus 0 ∷ []))

-- the sides that choose: by score, or by literals
abbrev pub chosen_tally_lem : Bool → End → End → Tally
chosen_tally_lem true a b = tally_of (soft_with Score a b [] [])
chosen_tally_lem false a b = tally_of (soft_with Literals a b [] [])

-- on any side: which number c_k has does not matter, so any will do
abbrev pub pair_tally_lem : Side → End → End → Tally
pair_tally_lem s a b = tally_of (soft_with s a b (plus 0 ∷ []) (minus 0 ∷ []))
