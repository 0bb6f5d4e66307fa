-- The list made from a plan, read row by row: of each box it holds the plan's value, and the thresholds say so. Hence it is accepted with that plan.
use mathlib.Core.Path.{◌≡◌, refl, sym, ap, ◌∙◌}
use Prim.Native.Nat.{ℕ, suc, ◌+◌, ◌-◌, ◌≤◌, pred}
use native.Mathlib.Omega.{arith}
use mathlib.Core.Bool.{Bool, true, false}
use mathlib.Core.List.{List, ◌++◌, map}
use lib.ListN.{length, get_or, replicate, length-map, get_or-replicate}
use lib.Seq.{get_or-append-add, ext_get_or}
use lib.Dec.{eqb, leb}
use Rattle.lists.specs.Lists.{count, nth, before, Each}
use Rattle.lists.proofs.Blocks.{run_at, flat_at}
use Rattle.lists.proofs.Sums.{each_append, each_flat, each_map, each_replicate}
use Rattle.table.specs.Table.{Table, boxes, size, In, Sound}
use Rattle.plan.specs.Plan.{IsPlan}
use Rattle.clause.specs.declared.Hard.{Hard}
use Rattle.clause.specs.declared.Hard.TheVariants.{Standard, Regular}
use Rattle.clause.specs.declared.Side.{Side}
use Rattle.clause.specs.Clause.{reads}
use Rattle.clause.specs.Numbers.{values, steps, thresholds, switches, value_base_lem, step_base_lem, x, r, c}
use Rattle.clause.proofs.Boxes.{Steps}
use Rattle.list_boxes.specs.Lists.{Bit}
use Rattle.decoder.specs.Lists.{plan_of, bit, value_row, step_row, value_bits, step_bits, made}
use Rattle.decoder.proofs.PlanOfList.{Fits, plan_long, plan_at}
use Rattle.maker.proofs.Long.{value_row_of, step_row_of, value_long, step_size, step_long, step_rows, values_long, steps_long, made_long}
use Rattle.demand3.specs.Accepted.{Accepts}
use Rattle.demand3.proofs.HardClauses.{holds_ok, boxes_hard}

bit_reads : (o : Bool) → eqb (bit o) 1 ≡ o
bit_reads true = refl
bit_reads false = refl

bit_small : (o : Bool) → Bit (bit o)
bit_small true = omega arith
bit_small false = omega arith

row_bits : (f : ℕ → Bool) (js : List ℕ) → Each Bit (map (λ j. bit (f j)) js)
row_bits f js = each_map Bit (λ j. bit (f j)) (λ j. bit_small (f j)) js

module _ (t : Table) (l : List ℕ) where
  -- a list holds no plan but its own
  pub plan_is : (plan : List ℕ) → length plan ≡ boxes t → Fits (reads l) t plan → plan_of t l ≡ plan
  plan_is plan n F =
      let m = plan_long t l in
      ext_get_or 0 (plan_of t l) plan (m ∙ sym n) (λ i u.
      let z : suc i - 1 ≡ i = omega arith in
      let inside : In 1 (boxes t) (suc i) = (omega arith, omega arith) in
      rw z at (plan_at t l (suc i) (nth plan (suc i)) inside (F (suc i) inside)))

module _ (t : Table) (plan : List ℕ) where
  -- ---- its entries are 0 or 1

  value_bits_lem : Each Bit (value_bits t plan)
  unfolding value_bits value_row
  value_bits_lem =
      each_flat Bit (value_row_of t plan) (λ b. row_bits (λ j. eqb j (nth plan b)) (count 1 (size t b))) (count 1 (boxes t))

  step_bits_lem : (h : Hard) → Each Bit (step_bits h t plan)
  unfolding step_bits step_row
  step_bits_lem Standard = tt
  step_bits_lem Regular =
      each_flat Bit (step_row_of t plan) (λ b. row_bits (λ j. leb j (nth plan b)) (count 2 (pred (size t b)))) (count 1 (boxes t))

  made_bits : (h : Hard) (s : Side) → Each Bit (made h s t plan)
  unfolding made
  made_bits h s =
      each_append Bit (value_bits t plan) (step_bits h t plan ++ replicate (switches t s) 0) value_bits_lem
      (each_append Bit (step_bits h t plan) (replicate (switches t s) 0) (step_bits_lem h) (each_replicate Bit 0 (omega arith) (switches t s)))

  -- ---- what it reads

  made_value : (h : Hard) (s : Side) (b j : ℕ) → In 1 (boxes t) b → 1 ≤ j → j ≤ size t b → reads (made h s t plan) (x t b j) ≡ eqb j (nth plan b)
  unfolding made value_bits value_base_lem before value_row
  made_value h s b j (u, v) l g =
      let index : before t.sizes b + j - 1 ≡ before t.sizes b + (j - 1) = omega arith in
      ap (λ (n : ℕ). eqb n 1)
      (ap (λ (i : ℕ). get_or (made h s t plan) i 0) index
      ∙ flat_at t.sizes (value_row_of t plan) 1 (step_bits h t plan ++ replicate (switches t s) 0) b (j - 1) 0
      (value_long t plan) u (omega arith) (omega arith)
      ∙ run_at (λ j. bit (eqb j (nth plan b))) 1 (size t b) j 0 l (omega arith))
      ∙ bit_reads (eqb j (nth plan b))

  made_step : (s : Side) (b j : ℕ) → In 1 (boxes t) b → 2 ≤ j → j ≤ size t b → reads (made Regular s t plan) (r t b j) ≡ leb j (nth plan b)
  unfolding made step_base_lem before step_row
  made_step s b j (u, v) l g =
      let rest : List ℕ = replicate (switches t s) 0 in
      let index : values t + before (steps t) b + (j - 1) - 1 ≡ length (value_bits t plan) + (before (steps t) b + (j - 2)) =
      rw (values_long t plan) (omega arith) in
      let many : length (steps t) ≡ boxes t = length-map t.sizes pred in
      let wide = step_size t plan b in
      ap (λ (n : ℕ). eqb n 1)
      (ap (λ (i : ℕ). get_or (made Regular s t plan) i 0) index
      ∙ get_or-append-add (value_bits t plan) (step_bits Regular t plan ++ rest) (before (steps t) b + (j - 2)) 0
      ∙ ap (λ (k : List ℕ). get_or (k ++ rest) (before (steps t) b + (j - 2)) 0) (step_rows t plan)
      ∙ flat_at (steps t) (step_row_of t plan) 1 rest b (j - 2) 0 (step_long t plan) u (omega arith) (omega arith)
      ∙ run_at (λ j. bit (leb j (nth plan b))) 2 (pred (size t b)) j 0 l (omega arith))
      ∙ bit_reads (leb j (nth plan b))

  pub made_switch : (h : Hard) (s : Side) (k : ℕ) → In 1 (switches t s) k → nth (made h s t plan) (c t h k) ≡ 0
  unfolding made c
  made_switch h s k (u, v) =
      let rest : List ℕ = replicate (switches t s) 0 in
      let index : values t + thresholds t h + k - 1 ≡ length (value_bits t plan) + (length (step_bits h t plan) + (k - 1)) =
      rw (values_long t plan, steps_long t plan h) (omega arith) in
      ap (λ (i : ℕ). get_or (made h s t plan) i 0) index
      ∙ get_or-append-add (value_bits t plan) (step_bits h t plan ++ rest) (length (step_bits h t plan) + (k - 1)) 0
      ∙ get_or-append-add (step_bits h t plan) rest (k - 1) 0
      ∙ get_or-replicate (switches t s) (k - 1) 0 0 (omega arith)

  -- ---- it is accepted, and its plan is the plan

  made_fits : (h : Hard) (s : Side) → IsPlan t plan → Fits (reads (made h s t plan)) t plan
  made_fits h s P b i = let (l, g) = P.within b i.0 i.1 in record { low = l; high = g; at = λ j p q. made_value h s b j i p q }

  made_steps : (h : Hard) (s : Side) (b : ℕ) → In 1 (boxes t) b → Steps h (reads (made h s t plan)) (step_base_lem t b) (size t b) (nth plan b)
  made_steps Standard s b i = tt
  made_steps Regular s b i = λ j l g. made_step s b j i l g

  pub made_accepted : (h : Hard) (s : Side) → Sound t → IsPlan t plan → Accepts h s t (made h s t plan)
  made_accepted h s S P =
      let l = made h s t plan in
      record {
        long = made_long t plan h s;
        bits = made_bits h s;
        hard = boxes_hard h s t l S (λ b i. holds_ok h t l b (nth plan b) (made_fits h s P b i) (made_steps h s b i));
      }

  pub made_plan : (h : Hard) (s : Side) → IsPlan t plan → plan_of t (made h s t plan) ≡ plan
  made_plan h s P = plan_is t (made h s t plan) plan P.long (made_fits h s P)
