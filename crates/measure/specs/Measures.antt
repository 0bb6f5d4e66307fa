-- The answers with the exact lengths and the scratch lengths: 8 for an unknown encoding, then the table's refusal.
use Rattle.refusal.specs.declared.Refusal.{Refusal}
use Rattle.std.specs.Prelude.{Result, Ok, Err}
use Rattle.std.specs.Prelude.{Bool, true, false, [], ◌∷◌}
use Rattle.refusal.specs.Refusals.{Says, gives, refusal_says}
use Rattle.table.specs.Table.{Table}
use Rattle.table.specs.Words.{Outcome}
use Rattle.clause.specs.declared.Side.{Side}
use Rattle.clause.specs.declared.Encoding.{Encoding}
use Rattle.clause.specs.Ends.{Which, one, two}
use Rattle.asked.specs.Asked.{over}
use Rattle.clause.specs.Numbers.{variables}
use Rattle.clause.specs.Lengths.{clause_count, literal_count, entry_count, longest, candidate_length_lem, scratch_length, top}
use Rattle.measure.specs.declared.Lengths.{Lengths}
use Rattle.measure.specs.declared.Scratch.{Scratch}

abbrev pub lengths_for : Encoding → Table → Lengths
lengths_for e t =
    record {
      variables = variables t e.hard e.side;
      clauses = clause_count e.hard e.side t;
      literals = literal_count e.hard e.side t;
      entries = entry_count e.hard e.side t;
      top = top t;
    }

abbrev pub scratch_for : Side → Table → Scratch
scratch_for s t = record { first = scratch_length s one t; second = scratch_length s two t }

-- on the sides that choose
abbrev pub longest_lists_lem : Table → Scratch
longest_lists_lem t = record { first = longest (candidate_length_lem t one) t.pairs; second = longest (candidate_length_lem t two) t.pairs }

abbrev pub measured_of : Result Encoding Refusal → Outcome → Result Lengths Refusal
measured_of p o = over p o Err (λ e t. Ok (lengths_for e t))

abbrev pub needed_of : Result Encoding Refusal → Outcome → Result Scratch Refusal
needed_of p o = over p o Err (λ e t. Ok (scratch_for e.side t))

-- success gives variables, clauses, literals without and with closing zeros, and the top
abbrev pub measured_says : Result Lengths Refusal → Says
measured_says (Err f) = refusal_says f
measured_says (Ok l) = gives (l.variables ∷ l.clauses ∷ l.literals ∷ l.entries ∷ l.top ∷ [])

-- success gives the two scratch lengths
abbrev pub needed_says : Result Scratch Refusal → Says
needed_says (Err f) = refusal_says f
needed_says (Ok s) = gives (s.first ∷ s.second ∷ [])

-- the second end, or the first
abbrev pub which_by : Bool → Which
which_by true = two
which_by false = one
