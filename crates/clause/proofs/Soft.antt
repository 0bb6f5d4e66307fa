-- What a pair's clauses lose, on each side, when its two boxes hold values: one clause if the values are not allowed together, else none.
use mathlib.Core.Path.{◌≡◌, refl, ap, ap₂, ◌∙◌}
use Prim.Native.Nat.{ℕ, ◌+◌}
use native.Mathlib.Nat.{add-zero}
use native.Mathlib.Omega.{arith}
use mathlib.Core.Bool.{Bool, true, false, not, cond, ◌&&◌, ◌||◌, and-true, and-false, or-false, or-true}
use mathlib.Core.List.{[]}
use Rattle.lists.specs.Lists.{count, those, sum_of}
use Rattle.lists.proofs.Truth.{test}
use Rattle.lists.proofs.Lists.{any_append, any_map, any_those, sum_append, sum_flat}
use Rattle.lists.proofs.Runs.{any_only, all_at, sum_only, sum_none}
use Rattle.table.specs.Table.{Table, Pair, size, allowed}
use Rattle.clause.specs.declared.Side.{Side}
use Rattle.clause.specs.declared.Side.TheVariants.{Direct, Support, First, Literals, Score}
use Rattle.clause.specs.Clause.{plus, Clause, Reading, lit_true, clause_true, lost}
use Rattle.clause.specs.Numbers.{value_from, x}
use Rattle.clause.specs.Ends.{End, Which, one, two, end, direct_at, direct_row, direct_clauses, supports, full, support_at, support_clauses}
use Rattle.clause.specs.Choice.{by_literals, by_score}
use Rattle.clause.specs.Soft.{pick, soft_with, soft}
use Rattle.clause.proofs.OneValue.{Holds, holds_is, holds_not}

-- Seen from one end, whose box holds a and the other b.
module _ (ν : Reading) (e : End) (a b : ℕ) (H : Holds ν (value_from e.own) e.mine a) (K : Holds ν (value_from e.other) e.theirs b) where
  -- the support of a is true exactly if b is in it
  supported : clause_true ν (supports e a) ≡ e.ok a b
  unfolding supports
  supported =
      any_map (lit_true ν) (λ i. plus (value_from e.other i)) (those (e.ok a) (count 1 e.theirs))
      ∙ any_those (λ i. ν (value_from e.other i)) (e.ok a) (count 1 e.theirs)
      ∙ any_only (λ i. e.ok a i && ν (value_from e.other i)) 1 e.theirs b K.low (omega (arith, K.high))
      (λ j u v q. rw (holds_not K j u v q) (and-false (e.ok a j)))
      ∙ ap (λ (t : Bool). e.ok a b && t) (holds_is K) ∙ and-true (e.ok a b)

  -- a value that the box does not hold loses nothing
  support_off : (tail : Clause) (j : ℕ) → ν (value_from e.own j) ≡ false → lost ν (support_at e tail j) ≡ 0
  unfolding support_at
  support_off tail j p = test (full e j) (λ q. rw q) (λ q. rw (q, p))

  support_on : (tail : Clause) → lost ν (support_at e tail a) ≡ cond (e.ok a b || clause_true ν tail) 0 1
  unfolding support_at full
  support_on tail =
      test (full e a)
      (λ q. rw (q, all_at (e.ok a) 1 e.theirs q b K.low (omega (arith, K.high))))
      (λ q. rw (q, holds_is H, any_append (lit_true ν) (supports e a) tail, supported) (add-zero _))

  pub support_lost : (tail : Clause) → lost ν (support_clauses e tail) ≡ cond (e.ok a b || clause_true ν tail) 0 1
  unfolding support_clauses
  support_lost tail =
      sum_flat (λ c. cond (clause_true ν c) 0 1) (support_at e tail) (count 1 e.mine)
      ∙ sum_only (λ j. lost ν (support_at e tail j)) 1 e.mine a H.low (omega (arith, H.high))
      (λ j u v q. support_off tail j (holds_not H j u v q))
      ∙ support_on tail

  direct_off_own : (i j : ℕ) → ν (value_from e.own i) ≡ false → lost ν (direct_at e i j) ≡ 0
  unfolding direct_at
  direct_off_own i j p = test (e.ok i j) (λ q. rw q) (λ q. rw (q, p))

  direct_off_other : (i j : ℕ) → ν (value_from e.other j) ≡ false → lost ν (direct_at e i j) ≡ 0
  unfolding direct_at
  direct_off_other i j p = test (e.ok i j) (λ q. rw q) (λ q. rw (q, p, or-true))

  direct_on : lost ν (direct_at e a b) ≡ cond (e.ok a b) 0 1
  unfolding direct_at
  direct_on = test (e.ok a b) (λ q. rw q) (λ q. rw (q, holds_is H, holds_is K))

  -- one value's clauses
  direct_row_lem : (i : ℕ) → lost ν (direct_row e i) ≡ sum_of (λ j. lost ν (direct_at e i j)) (count 1 e.theirs)
  unfolding direct_row
  direct_row_lem i = sum_flat (λ c. cond (clause_true ν c) 0 1) (direct_at e i) (count 1 e.theirs)

  pub direct_lost : lost ν (direct_clauses e) ≡ cond (e.ok a b) 0 1
  unfolding direct_clauses
  direct_lost =
      sum_flat (λ c. cond (clause_true ν c) 0 1) (direct_row e) (count 1 e.mine)
      ∙ sum_only (λ i. lost ν (direct_row e i)) 1 e.mine a H.low (omega (arith, H.high))
      (λ i u v q. direct_row_lem i ∙ sum_none (λ j. lost ν (direct_at e i j)) 1 e.theirs (λ j l h. direct_off_own i j (holds_not H i u v q)))
      ∙ direct_row_lem a
      ∙ sum_only (λ j. lost ν (direct_at e a j)) 1 e.theirs b K.low (omega (arith, K.high))
      (λ j u v q. direct_off_other a j (holds_not K j u v q))
      ∙ direct_on

-- ---- the five sides

-- b is a turned round: the same pair seen from its other box
pub record Turned (a b : End) : Type 0 where
  pub own : b.own ≡ a.other
  pub mine : b.mine ≡ a.theirs
  pub other : b.other ≡ a.own
  pub theirs : b.theirs ≡ a.mine
  pub ok : (i j : ℕ) → b.ok j i ≡ a.ok i j

-- exactly one of the two ends is charged, whatever the switch
switched : (o v w : Bool) → w ≡ not v → cond (o || v) 0 1 + cond (o || w) 0 1 ≡ cond o 0 1
switched true v w e = refl
switched false true w e = rw e
switched false false w e = rw e

-- The boxes of a pair with the ends a and b hold i and j.
module _ (ν : Reading) (a b : End) (T : Turned a b) (i j : ℕ)
    (H : Holds ν (value_from a.own) a.mine i) (K : Holds ν (value_from a.other) a.theirs j) where
  -- from either end
  end_lost : (w : Which) (tail : Clause) → lost ν (support_clauses (pick w a b) tail) ≡ cond (a.ok i j || clause_true ν tail) 0 1
  end_lost one tail = support_lost ν a i j H K tail
  end_lost two tail = support_lost ν b j i (rw (T.own, T.mine) K) (rw (T.other, T.theirs) H) tail ∙ rw (T.ok i j)

  alone : (w : Which) → lost ν (support_clauses (pick w a b) []) ≡ cond (a.ok i j) 0 1
  alone w = end_lost w [] ∙ ap (λ (o : Bool). cond o 0 1) (or-false (a.ok i j))

  -- THEOREM. On every side a pair loses one clause if it does not allow the two values, and else none.
  pub soft_lost : (s : Side) (on off : Clause) → clause_true ν off ≡ not (clause_true ν on) → lost ν (soft_with s a b on off) ≡ cond (a.ok i j) 0 1
  unfolding soft_with
  soft_lost Direct on off e = direct_lost ν a i j H K
  soft_lost Support on off e =
      sum_append (λ d. cond (clause_true ν d) 0 1) (support_clauses a on) (support_clauses b off)
      ∙ ap₂ ◌+◌ (end_lost one on) (end_lost two off)
      ∙ switched (a.ok i j) (clause_true ν on) (clause_true ν off) e
  soft_lost First on off e = alone one
  soft_lost Literals on off e = alone (by_literals a b)
  soft_lost Score on off e = alone (by_score a b)

-- ---- the pairs of a table

pub end_turned : (t : Table) (p : Pair) → Turned (end t p one) (end t p two)
unfolding end
end_turned t p = record { own = refl; mine = refl; other = refl; theirs = refl; ok = λ i j. refl }

pub pair_lost : (t : Table) (p : Pair) (ν : Reading) (a b : ℕ)
    → Holds ν (x t p.first) (size t p.first) a → Holds ν (x t p.second) (size t p.second) b
    → (s : Side) (on off : Clause) → clause_true ν off ≡ not (clause_true ν on) → lost ν (soft s t on off p) ≡ cond (allowed p a b) 0 1
unfolding soft end
pair_lost t p ν a b H K s on off e = soft_lost ν (end t p one) (end t p two) (end_turned t p) a b H K s on off e
