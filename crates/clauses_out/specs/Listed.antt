-- What writing the clause list answers, and what each lent buffer then holds.
use Rattle.std.specs.Prelude.{ℕ, ◌≡◌, List, ℤ}
use Rattle.std.proofs.lemmas.List.Edits.{sets}
use Rattle.table.specs.Table.{Table}
use Rattle.clause.specs.declared.Encoding.{Encoding}
use Rattle.clause.specs.Clause.{entries, weights}
use Rattle.clause.specs.List.{clauses}
use Rattle.clause.specs.Lengths.{clause_count, entry_count}
use Rattle.whole.specs.Scratch.{scratch_left}
use Rattle.clauses_out.specs.declared.Written.{Written}

abbrev pub written_of : Encoding → Table → Written
written_of e t = record { literals = entry_count e.hard e.side t; weights = clause_count e.hard e.side t }

-- the literals from the start, and the rest as it was
abbrev pub literals_with : Encoding → Table → List ℤ → List ℤ
literals_with e t old = sets old 0 (entries (clauses e.hard e.side t))

abbrev pub weights_with : Encoding → Table → List ℕ → List ℕ
weights_with e t old = sets old 0 (weights (clauses e.hard e.side t))

-- the answer and each lent buffer at exit, by what they were
pub record Listed (e : Encoding) (t : Table) (first second literals : List ℤ) (weights : List ℕ) (r : Written)
    (first' second' literals' : List ℤ) (weights' : List ℕ) : Type 0 where
  pub answer : r ≡ written_of e t
  pub first_left : first' ≡ scratch_left e.side first
  pub second_left : second' ≡ scratch_left e.side second
  pub literals_left : literals' ≡ literals_with e t literals
  pub weights_left : weights' ≡ weights_with e t weights
