-- What is answered and left: the two outcomes.
use Rattle.std.specs.Prelude.{Ok, Err}
use mathlib.Core.Path.{◌≡◌, refl, ap}
use mathlib.Core.List.{List}
use Prim.Native.Nat.{ℕ}
use native.Mathlib.Omega.{arith}
use lib.ListN.{length}
use lib.IntN.{ℤ}
use Rattle.lists.specs.Stores.{Wrote}
use Rattle.refusal.specs.declared.Refusal.{Refusal}
use Rattle.table.specs.Table.{Table}
use Rattle.clause.specs.declared.Encoding.{Encoding}
use Rattle.clause.specs.Ends.{one, two}
use Rattle.parts.specs.Parts.{scratch_through}
use Rattle.whole.specs.Scratch.{scratch_left}
use Rattle.whole.proofs.Scratch.{left}
use Rattle.whole.specs.Verdict.{no, yes}
use Rattle.wcnf_text.specs.Text.{text_of}
use Rattle.wcnf_out.specs.Written.{Outcomes}

-- a refusal leaves all as it was
pub refusal_left : (f : Refusal) (first second : List ℤ) (text : List ℕ) → Outcomes (no f) first second text (Err f) first second text
refusal_left f first second text = record { answer = refl; first_left = refl; second_left = refl; text_left_lem = refl }

-- all is written
pub text_written : (e : Encoding) (t : Table) (first second first₁ second₁ : List ℤ) {text text₁ : List ℕ} {first₂ second₂ : List ℤ} {r : ℕ}
    → Wrote text 0 (text_of e t) r text₁
    → first₁ ≡ scratch_through e.side one t t.pairs first → second₁ ≡ scratch_through e.side two t t.pairs second
    → first₂ ≡ scratch_left e.side first₁ → second₂ ≡ scratch_left e.side second₁
    → Outcomes (yes e t) first second text (Ok r) first₂ second₂ text₁
text_written e t first second first₁ second₁ {r = r} w k l u v =
    let n : r ≡ length (text_of e t) = omega (arith, w.next) in
    record {
      answer = ap Ok n;
      first_left = left e.side one t first first₁ k u;
      second_left = left e.side two t second second₁ l v;
      text_left_lem = w.list;
    }
