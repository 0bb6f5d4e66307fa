-- All is written, and the scratch slices are left as tidying leaves what was lent.
use mathlib.Core.Path.{◌≡◌}
use mathlib.Core.List.{List}
use Prim.Native.Nat.{ℕ}
use native.Mathlib.Omega.{arith}
use lib.ListN.{length}
use lib.IntN.{ℤ}
use Rattle.lists.specs.Stores.{Wrote}
use Rattle.table.specs.Table.{Table}
use Rattle.clause.specs.declared.Encoding.{Encoding}
use Rattle.clause.specs.Clause.{entries, weights}
use Rattle.clause.specs.Ends.{one, two}
use Rattle.clause.specs.List.{clauses}
use Rattle.clause.specs.Lengths.{clause_count, entry_count}
use Rattle.clause.proofs.Turns.{weights_count}
use Rattle.parts.specs.Parts.{scratch_through}
use Rattle.whole.specs.Scratch.{scratch_left}
use Rattle.whole.proofs.Scratch.{left}
use Rattle.clauses_out.specs.Listed.{Listed}

pub all_written : (e : Encoding) (t : Table) (first second first₁ second₁ : List ℤ) {literals literals₁ first₂ second₂ : List ℤ}
    {heavy heavy₁ : List ℕ} {r q : ℕ}
    → Wrote literals 0 (entries (clauses e.hard e.side t)) r literals₁ → Wrote heavy 0 (weights (clauses e.hard e.side t)) q heavy₁
    → first₁ ≡ scratch_through e.side one t t.pairs first → second₁ ≡ scratch_through e.side two t t.pairs second
    → first₂ ≡ scratch_left e.side first₁ → second₂ ≡ scratch_left e.side second₁
    → Listed e t first second literals heavy (record { literals = r; weights = q }) first₂ second₂ literals₁ heavy₁
unfolding entry_count
all_written e t first second first₁ second₁ {r = r} {q = q} a b k l u v =
    let n : q ≡ clause_count e.hard e.side t = omega (arith, b.next, weights_count e.hard e.side t) in
    let m : r ≡ length (entries (clauses e.hard e.side t)) = omega (arith, a.next) in
    record {
      answer = rw (m, n);
      first_left = left e.side one t first first₁ k u;
      second_left = left e.side two t second second₁ l v;
      literals_left = a.list;
      weights_left = b.list;
    }
