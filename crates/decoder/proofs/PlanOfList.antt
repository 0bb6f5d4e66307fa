-- Where every hard clause of every box is true, each box holds its plan's value, and so the plan of a list with which nothing is wrong is one.
use mathlib.Core.Path.{◌≡◌, ◌∙◌}
use mathlib.Core.Option.{none}
use mathlib.Core.List.{List}
use Prim.Native.Nat.{ℕ}
use native.Mathlib.Omega.{arith}
use lib.ListN.{length, length-map}
use Rattle.lists.specs.Lists.{count, nth}
use Rattle.lists.proofs.Blocks.{length_count, run_at}
use Rattle.table.specs.Table.{Table, boxes, size, In}
use Rattle.plan.specs.Plan.{IsPlan}
use Rattle.clause.specs.declared.Hard.{Hard}
use Rattle.clause.specs.declared.Side.{Side}
use Rattle.clause.specs.Clause.{Reading, reads}
use Rattle.clause.specs.Numbers.{value_base_lem, step_base_lem, x}
use Rattle.clause.specs.Hard.{box_clauses}
use Rattle.clause.proofs.OneValue.{Holds}
use Rattle.clause.proofs.Boxes.{box_holds}
use Rattle.list_boxes.specs.Lists.{box_ok_lem, value_of}
use Rattle.list_judge.specs.Faults.{list_fault}
use Rattle.list_boxes.proofs.Counted.{held_is}
use Rattle.list_judge.proofs.Faults.{BoxesOk, fine_boxes}
use Rattle.decoder.specs.Lists.{plan_of}

-- the reading holds the plan: each box holds its value, and no other
abbrev pub Fits : Reading → Table → List ℕ → Type 0
Fits ν t plan = (b : ℕ) → In 1 (boxes t) b → Holds ν (x t b) (size t b) (nth plan b)

module _ (t : Table) (l : List ℕ) where
  pub plan_long : length (plan_of t l) ≡ boxes t
  unfolding plan_of
  plan_long = length-map (count 1 (boxes t)) (value_of t l) ∙ length_count 1 (boxes t)

  pub plan_at : (b a : ℕ) → In 1 (boxes t) b → Holds (reads l) (x t b) (size t b) a → nth (plan_of t l) b ≡ a
  unfolding plan_of
  plan_at b a (u, v) H = run_at (value_of t l) 1 (boxes t) b 0 u (omega arith) ∙ held_is H

-- a box whose hard clauses are true holds its plan's value
pub plan_fits : (h : Hard) (t : Table) (l : List ℕ) → BoxesOk h t l → Fits (reads l) t (plan_of t l)
unfolding box_ok_lem box_clauses
plan_fits h t l O b i =
    let (a, H, C) = box_holds h (reads l) (value_base_lem t b) (step_base_lem t b) (size t b) (O b i) in
    rw (plan_at t l b a i H) H

pub fits_plan : (t : Table) (l : List ℕ) → Fits (reads l) t (plan_of t l) → IsPlan t (plan_of t l)
fits_plan t l F = record { long = plan_long t l; within = λ b u v. let H = F b (u, v) in (H.low, H.high) }

pub fine_plan : (h : Hard) (s : Side) (t : Table) (l : List ℕ) → list_fault h s t l ≡ none → IsPlan t (plan_of t l)
fine_plan h s t l e = fits_plan t l (plan_fits h t l (fine_boxes h s t l e))
