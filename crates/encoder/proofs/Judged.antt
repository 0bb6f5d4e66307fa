-- The two outcomes.
use Rattle.std.specs.Prelude.{Ok, Err}
use mathlib.Core.Path.{refl, ap}
use mathlib.Core.List.{List}
use Prim.Native.Nat.{ℕ}
use lib.IntN.{ℤ}
use Rattle.refusal.specs.declared.Refusal.{Refusal}
use Rattle.table.specs.Table.{Table}
use Rattle.clause.specs.declared.Encoding.{Encoding}
use Rattle.clauses_out.specs.declared.Written.{Written}
use Rattle.clauses_out.specs.Listed.{Listed}
use Rattle.whole.specs.Verdict.{no, yes}
use Rattle.encoder.specs.Encoded.{Outcomes}

-- a refusal leaves all as it was
pub refusal_left : (f : Refusal) (first second literals : List ℤ) (weights : List ℕ)
    → Outcomes (no f) first second literals weights (Err f) first second literals weights
refusal_left f first second literals weights = record { answer = refl; first_left = refl; second_left = refl; literals_left = refl; weights_left = refl }

-- all is written
pub list_left : (e : Encoding) (t : Table) {first second literals first' second' literals' : List ℤ} {weights weights' : List ℕ} {r : Written}
    → Listed e t first second literals weights r first' second' literals' weights'
    → Outcomes (yes e t) first second literals weights (Ok r) first' second' literals' weights'
list_left e t l =
    record {
      answer = ap Ok l.answer;
      first_left = l.first_left;
      second_left = l.second_left;
      literals_left = l.literals_left;
      weights_left = l.weights_left;
    }
