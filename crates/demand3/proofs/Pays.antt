-- The soft part loses what the plan costs: each pair loses what it pays, whatever its switch. Of all this only soft-cost and soft-hard are cited above.
use mathlib.Core.Path.{◌≡◌, refl, ap, ap₂, ◌∙◌}
use Prim.Native.Nat.{ℕ, suc, ◌+◌, ◌*◌}
use native.Mathlib.Nat.{zero-mul, one-mul}
use native.Mathlib.Omega.{arith}
use mathlib.Core.Bool.{Bool, true, false, not, cond, ◌||◌}
use mathlib.Core.List.{List, [], ◌∷◌}
use lib.Dec.{eqb}
use borrow.Author.Tests.{ne_eqb}
use Rattle.lists.specs.Lists.{nth, sum_of, Each}
use Rattle.lists.proofs.Truth.{both}
use Rattle.lists.proofs.Lists.{all_append, sum_append}
use Rattle.table.specs.Table.{Table, Pair, allowed, SoundPair, Sound}
use Rattle.plan.specs.Plan.{charge, cost}
use Rattle.clause.specs.declared.Hard.{Hard}
use Rattle.clause.specs.declared.Side.{Side}
use Rattle.clause.specs.Clause.{plus, minus, weigh, Reading, clause_true, falsified, hard_true}
use Rattle.clause.specs.Numbers.{c}
use Rattle.clause.specs.List.{pair_clauses, soft_from, soft_part}
use Rattle.clause.proofs.Soft.{pair_lost}
use Rattle.clause.proofs.Weights.{falsified_weigh, hard_weigh}
use Rattle.decoder.proofs.PlanOfList.{Fits}

-- a switch and its negation
opposite : (ν : Reading) (v : ℕ) → clause_true ν (minus v ∷ []) ≡ not (clause_true ν (plus v ∷ []))
opposite ν v = go (ν v)
  where
    go : (o : Bool) → (not o || false) ≡ not (o || false)
    go true = refl
    go false = refl

module _ (h : Hard) (s : Side) (t : Table) (ν : Reading) (plan : List ℕ) (F : Fits ν t plan) where
  -- pair number k loses its weight if the plan breaks it, and else nothing
  pair_pays : (k : ℕ) (p : Pair) → SoundPair t p → falsified ν (weigh p.weight (pair_clauses h s t k p)) ≡ charge plan p
  unfolding pair_clauses
  pair_pays k p S =
      let a = nth plan p.first in
      let b = nth plan p.second in
      let switch = c t h k in
      falsified_weigh ν p.weight (pair_clauses h s t k p)
      ∙ ap (λ (n : ℕ). n * p.weight)
      (pair_lost t p ν a b (F p.first S.first) (F p.second S.second) s (plus switch ∷ []) (minus switch ∷ []) (opposite ν switch))
      ∙ charged (allowed p a b) p.weight
    where
      charged : (o : Bool) (w : ℕ) → cond o 0 1 * w ≡ cond (not o) w 0
      charged true w = zero-mul w
      charged false w = one-mul w

  -- none of its clauses is hard
  pair_soft : (k : ℕ) (p : Pair) → SoundPair t p → hard_true ν (weigh p.weight (pair_clauses h s t k p)) ≡ true
  pair_soft k p S = hard_weigh ν p.weight (pair_clauses h s t k p) ∙ rw (ne_eqb p.weight 0 (λ z. omega (arith, S.weight)))

  -- pair by pair
  pairs_cost : (k : ℕ) (ps : List Pair) → Each (SoundPair t) ps → falsified ν (soft_from h s t k ps) ≡ sum_of (charge plan) ps
  unfolding soft_from
  pairs_cost k [] S = refl
  pairs_cost k (p ∷ ps) (S, Ss) =
      sum_append (λ u. cond (clause_true ν u.lits) 0 u.weight) (weigh p.weight (pair_clauses h s t k p)) (soft_from h s t (suc k) ps)
      ∙ ap₂ ◌+◌ (pair_pays k p S) (pairs_cost (suc k) ps Ss)

  pairs_hard : (k : ℕ) (ps : List Pair) → Each (SoundPair t) ps → hard_true ν (soft_from h s t k ps) ≡ true
  unfolding soft_from
  pairs_hard k [] S = refl
  pairs_hard k (p ∷ ps) (S, Ss) =
      all_append (λ u. not (eqb u.weight 0) || clause_true ν u.lits) (weigh p.weight (pair_clauses h s t k p)) (soft_from h s t (suc k) ps)
      ∙ both (pair_soft k p S) (pairs_hard (suc k) ps Ss)

  -- what the soft part costs
  pub soft_cost : Sound t → falsified ν (soft_part h s t) ≡ cost t plan
  unfolding soft_part cost
  soft_cost S = pairs_cost 1 t.pairs S.pairs

  -- what of it is hard: nothing that is false
  pub soft_hard : Sound t → hard_true ν (soft_part h s t) ≡ true
  unfolding soft_part
  soft_hard S = pairs_hard 1 t.pairs S.pairs
