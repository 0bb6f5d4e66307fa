-- What the clauses of an end come to, and the choice between two ends by it.
use Rattle.std.specs.Prelude.{Bool, true, false, List, [], length, ltb}
use Rattle.lists.specs.Lists.{sum_of}
use Rattle.clause.specs.Clause.{Clause, literals_in}
use Rattle.clause.specs.Ends.{End, support_clauses}
use Rattle.clause.specs.Choice.{literals_from, points, score_from}
use Rattle.choice.specs.declared.EndTally.{EndTally}

-- of any clauses
abbrev pub tally_of : List Clause → EndTally
tally_of cs = record { clauses = length cs; literals = literals_in cs; score = sum_of (λ c. points (length c)) cs }

-- of an end's
unfoldable pub end_tally : End → EndTally
end_tally e = record { clauses = length (support_clauses e []); literals = literals_from e; score = score_from e }

-- whether the second of two ends is taken: by score, or by literals
abbrev pub second_by : Bool → EndTally → EndTally → Bool
second_by true a b = ltb a.score b.score
second_by false a b = ltb b.literals a.literals
