-- The hard clauses of a clause list are those of its boxes, and a list that meets them falsifies what its plan costs.
use mathlib.Core.Path.{◌≡◌, sym, ap, ap₂, ◌∙◌}
use Prim.Native.Nat.{ℕ, ◌+◌}
use native.Mathlib.Nat.{zero-add, mul-zero}
use native.Mathlib.Omega.{arith}
use mathlib.Core.Bool.{Bool, true, not, cond, ◌&&◌, ◌||◌}
use mathlib.Core.List.{List}
use lib.Dec.{eqb}
use Rattle.lists.specs.Lists.{count, all}
use Rattle.lists.proofs.Truth.{and_left, both}
use Rattle.lists.proofs.Lists.{all_append, all_flat, sum_append}
use Rattle.lists.proofs.Runs.{all_at, at_all}
use Rattle.table.specs.Table.{Table, boxes, size, Sound}
use Rattle.plan.specs.Plan.{cost}
use Rattle.clause.specs.declared.Hard.{Hard}
use Rattle.clause.specs.declared.Side.{Side}
use Rattle.clause.specs.Clause.{weigh, reads, clause_true, lost, falsified, hard_true}
use Rattle.clause.specs.Numbers.{value_base_lem, step_base_lem, x}
use Rattle.clause.specs.Hard.{box_clauses}
use Rattle.clause.specs.List.{hard_part, soft_part, clauses}
use Rattle.clause.proofs.OneValue.{Holds}
use Rattle.clause.proofs.Boxes.{Steps, holds_box}
use Rattle.clause.proofs.Weights.{falsified_weigh, hard_weigh}
use Rattle.list_boxes.specs.Lists.{box_ok_lem}
use Rattle.list_judge.proofs.Faults.{BoxesOk}
use Rattle.decoder.specs.Lists.{plan_of}
use Rattle.decoder.proofs.PlanOfList.{Fits, plan_fits}
use Rattle.demand3.specs.Accepted.{Accepts}
use Rattle.demand3.proofs.Pays.{soft_cost, soft_hard}

-- each box's clauses, and those of the soft part that are hard
hard_says : (h : Hard) (s : Side) (t : Table) (l : List ℕ)
    → hard_true (reads l) (clauses h s t) ≡ (all (box_ok_lem h t l) (count 1 (boxes t)) && hard_true (reads l) (soft_part h s t))
unfolding clauses hard_part box_ok_lem
hard_says h s t l =
    all_append (λ u. not (eqb u.weight 0) || clause_true (reads l) u.lits) (weigh 0 (hard_part h t)) (soft_part h s t)
    ∙ ap (λ (o : Bool). o && hard_true (reads l) (soft_part h s t))
    (hard_weigh (reads l) 0 (hard_part h t) ∙ all_flat (clause_true (reads l)) (box_clauses h t) (count 1 (boxes t)))

-- a box's hard clauses are true if it holds a value and its thresholds say so
pub holds_ok : (h : Hard) (t : Table) (l : List ℕ) (b a : ℕ)
    → Holds (reads l) (x t b) (size t b) a → Steps h (reads l) (step_base_lem t b) (size t b) a → box_ok_lem h t l b ≡ true
unfolding box_ok_lem box_clauses
holds_ok h t l b a H C = holds_box h (reads l) (value_base_lem t b) (step_base_lem t b) (size t b) a H C

module _ (h : Hard) (s : Side) (t : Table) (l : List ℕ) where
  pub hard_boxes : hard_true (reads l) (clauses h s t) ≡ true → BoxesOk h t l
  hard_boxes e b (u, v) =
      let all-ok = and_left (all (box_ok_lem h t l) (count 1 (boxes t))) (hard_true (reads l) (soft_part h s t)) (sym (hard_says h s t l) ∙ e) in
      all_at (box_ok_lem h t l) 1 (boxes t) all-ok b u (omega arith)

  pub boxes_hard : Sound t → BoxesOk h t l → hard_true (reads l) (clauses h s t) ≡ true
  boxes_hard S O =
      hard_says h s t l
      ∙ both (at_all (box_ok_lem h t l) 1 (boxes t) (λ b u v. O b (u, omega arith))) (soft_hard h s t (reads l) (plan_of t l) (plan_fits h t l O) S)

  pub accepted_fits : Accepts h s t l → Fits (reads l) t (plan_of t l)
  accepted_fits A = plan_fits h t l (hard_boxes A.hard)

  -- the hard clauses weigh 0, and the soft part loses what the plan costs
  pub fits_cost : (plan : List ℕ) → Sound t → Fits (reads l) t plan → falsified (reads l) (clauses h s t) ≡ cost t plan
  unfolding clauses
  fits_cost plan S F =
      sum_append (λ u. cond (clause_true (reads l) u.lits) 0 u.weight) (weigh 0 (hard_part h t)) (soft_part h s t)
      ∙ ap₂ ◌+◌ (falsified_weigh (reads l) 0 (hard_part h t) ∙ mul-zero (lost (reads l) (hard_part h t))) (soft_cost h s t (reads l) plan F S)
      ∙ zero-add (cost t plan)
