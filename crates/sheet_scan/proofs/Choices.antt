-- A choice's line is found exactly where its text stands, and a pair's second box where its line stands and the number is not the first's.
use mathlib.Core.Path.{◌≡◌, refl}
use mathlib.Core.Logic.{◌≢◌, ⊎_elim}
use mathlib.Core.Bool.{Bool, true, false}
use mathlib.Core.List.{List}
use Prim.Native.Nat.{ℕ, ◌≤◌}
use native.Mathlib.Omega.{arith}
use lib.Dec.{eqb}
use borrow.Author.Tests.{eqb-false, ne_eqb}
use Rattle.clause.specs.declared.Hard.{Hard}
use Rattle.clause.specs.declared.Hard.TheVariants.{Standard, Regular}
use Rattle.clause.specs.declared.Side.{Side}
use Rattle.clause.specs.declared.Side.TheVariants.{Direct, Support, First, Literals, Score}
use Rattle.text_out.specs.Texts.{line_of}
use Rattle.std.specs.Prelude.{Some, None}
use Rattle.std.proofs.lemmas.Option.{some_pair_parts}
use Rattle.scan.specs.Stands.{Stands, begins}
use Rattle.scan.specs.Lines.{Line, either, line_at, word_at}
use Rattle.scan.proofs.Lines.{word_was, Exact, exact_line}
use Rattle.sheet.specs.Keys.{hard_line_lem, side_line_lem, second_key, hard_number, side_number}
use Rattle.sheet_scan.specs.Found.{hard_at, side_at, other_than_lem, second_at}

-- ---- what is written is found

pub hard_found : (s : List ℕ) (h : Hard) (i k : ℕ) → Stands s i (hard_line_lem h) k → hard_at s i ≡ Some (hard_number h, k)
unfolding hard_at hard_line_lem word_at either begins
hard_found s Standard i k r = rw (r.there, r.next)
hard_found s Regular i k r = rw (r.there, r.next)

pub side_found : (s : List ℕ) (d : Side) (i k : ℕ) → Stands s i (side_line_lem d) k → side_at s i ≡ Some (side_number d, k)
unfolding side_at side_line_lem word_at either begins
side_found s Direct i k r = rw (r.there, r.next)
side_found s Support i k r = rw (r.there, r.next)
side_found s First i k r = rw (r.there, r.next)
side_found s Literals i k r = rw (r.there, r.next)
side_found s Score i k r = rw (r.there, r.next)

-- ---- what is found was written

pub record HardWas (s : List ℕ) (i n k : ℕ) : Type 0 where
  pub hard : Hard
  pub number : n ≡ hard_number hard
  pub stands : Stands s i (hard_line_lem hard) k

no_line : {X : Type 0} {n k : ℕ} → ◌≡◌ {A = Line} None (Some (n, k)) → X
no_line e = absurd (let o : ◌≡◌ {A = ℕ} 0 1 = cc in omega arith)

pub hard_was : (s : List ℕ) (i n k : ℕ) → hard_at s i ≡ Some (n, k) → HardWas s i n k
unfolding hard_at
hard_was s i n k e =
    ⊎_elim (λ q. record { hard = Standard; number = q.0; stands = q.1 })
    (λ q.
    ⊎_elim (λ q. record { hard = Regular; number = q.0; stands = q.1 }) (λ q. no_line q)
    (word_was s i (hard_line_lem Regular) 1 _ q))
    (word_was s i (hard_line_lem Standard) 0 _ e)

pub record SideWas (s : List ℕ) (i n k : ℕ) : Type 0 where
  pub side : Side
  pub number : n ≡ side_number side
  pub stands : Stands s i (side_line_lem side) k

pub side_was : (s : List ℕ) (i n k : ℕ) → side_at s i ≡ Some (n, k) → SideWas s i n k
unfolding side_at
side_was s i n k e =
    ⊎_elim (λ q. record { side = Direct; number = q.0; stands = q.1 })
    (λ q.
    ⊎_elim (λ q. record { side = Support; number = q.0; stands = q.1 })
    (λ q.
    ⊎_elim (λ q. record { side = First; number = q.0; stands = q.1 })
    (λ q.
    ⊎_elim (λ q. record { side = Literals; number = q.0; stands = q.1 })
    (λ q.
    ⊎_elim (λ q. record { side = Score; number = q.0; stands = q.1 }) (λ q. no_line q)
    (word_was s i (side_line_lem Score) 5 _ q))
    (word_was s i (side_line_lem Literals) 4 _ q))
    (word_was s i (side_line_lem First) 3 _ q))
    (word_was s i (side_line_lem Support) 2 _ q))
    (word_was s i (side_line_lem Direct) 1 _ e)

-- ---- the second box

other_found : (a v k : ℕ) → v ≢ a → other_than_lem a (Some (v, k)) ≡ Some (v, k)
unfolding other_than_lem either
other_found a v k h = simp (ne_eqb v a h)

other_was : (a : ℕ) (x : Line) {v k : ℕ} → other_than_lem a x ≡ Some (v, k) → (x ≡ Some (v, k)) × (v ≢ a)
unfolding other_than_lem either
other_was a None e = no_line e
other_was a (Some (w, j)) {v} {k} e = by (eqb w a) refl e
  where
    by : (b : Bool) → eqb w a ≡ b → either b None (Some (w, j)) ≡ Some (v, k) → (◌≡◌ {A = Line} (Some (w, j)) (Some (v, k))) × (v ≢ a)
    by true p e = no_line e
    by false p e = let same = (some_pair_parts _ _ _ _ e).0 in (e, rw same at (eqb-false w a p))

pub exact_second : (s : List ℕ) (n a : ℕ) → Exact s (second_at s n a) (line_of second_key) (λ v. ((1 ≤ v) × (v ≤ n)) × (v ≢ a))
unfolding second_at
exact_second s n a =
    let E = exact_line s second_key 1 n in
    record {
      found = λ v i k h r. rw (E.found v i k h.0 r) (other_found a v k h.1);
      was = λ v i k e.
          let o = other_was a (line_at s i second_key 1 n) e in
          let w = E.was v i k o.0 in
          ((w.0, o.1), w.1);
      some = E.some;
    }
