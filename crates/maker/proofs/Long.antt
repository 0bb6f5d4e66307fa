-- The rows of a made list, and how long they and the list are.
use mathlib.Core.Path.{◌≡◌, refl, sym, ap, ap₂, ◌∙◌}
use Prim.Native.Nat.{ℕ, ◌+◌, ◌-◌, ◌≤◌, pred}
use native.Mathlib.Nat.{add_assoc}
use mathlib.Core.List.{List, ◌++◌, flat_map}
use lib.ListN.{length, get_or, replicate, length-append, length-map, length-replicate, get_or-map}
use lib.Dec.{eqb, leb}
use Rattle.lists.specs.Lists.{count, nth}
use Rattle.lists.proofs.Blocks.{length_count, Long, flat_length}
use Rattle.table.specs.Table.{Table, size}
use Rattle.table.specs.Words.{box_count, size_at, table_of, Accepted}
use Rattle.table.proofs.Words.{accepted_parts}
use Rattle.table.proofs.Tables.{accepted_box}
use Rattle.numbers.proofs.Counted.{values_small, thresholds_less}
use Rattle.maker.specs.declared.Part.{Part}
use Rattle.maker.specs.declared.Part.TheVariants.{Values, Thresholds}
use Rattle.maker.specs.Rows.{rows_of}
use native.Mathlib.Omega.{arith}
use Rattle.clause.specs.declared.Hard.{Hard}
use Rattle.clause.specs.declared.Hard.TheVariants.{Standard, Regular}
use Rattle.clause.specs.declared.Side.{Side}
use Rattle.clause.specs.Numbers.{values, steps, thresholds, switches, variables}
use Rattle.decoder.specs.Lists.{bit, value_row, step_row, value_bits, step_bits, made}

module _ (t : Table) (plan : List ℕ) where
  -- ---- its rows

  abbrev pub value_row_of : ℕ → List ℕ
  value_row_of b = value_row (size t b) (nth plan b)

  abbrev pub step_row_of : ℕ → List ℕ
  step_row_of b = step_row (size t b) (nth plan b)

  pub value_long : Long t.sizes value_row_of 1
  unfolding value_row
  value_long b u v = length-map (count 1 (size t b)) (λ j. bit (eqb j (nth plan b))) ∙ length_count 1 (size t b)

  -- a box has one threshold less than values
  pub step_size : (b : ℕ) → get_or (steps t) (b - 1) 0 ≡ pred (size t b)
  step_size b = get_or-map pred t.sizes (b - 1) 0

  pub step_long : Long (steps t) step_row_of 1
  unfolding step_row
  step_long b u v =
      length-map (count 2 (pred (size t b))) (λ j. bit (leb j (nth plan b))) ∙ length_count 2 (pred (size t b)) ∙ sym (step_size b)

  -- the rows of thresholds, counted by their own list of lengths
  pub step_rows : step_bits Regular t plan ≡ flat_map step_row_of (count 1 (length (steps t)))
  unfolding step_bits
  step_rows = ap (λ (n : ℕ). flat_map step_row_of (count 1 n)) (sym (length-map t.sizes pred))

  -- ---- its length

  pub values_long : length (value_bits t plan) ≡ values t
  unfolding value_bits values
  values_long = flat_length t.sizes value_row_of 1 value_long

  pub steps_long : (h : Hard) → length (step_bits h t plan) ≡ thresholds t h
  unfolding step_bits thresholds
  steps_long Standard = refl
  steps_long Regular = ap length step_rows ∙ flat_length (steps t) step_row_of 1 step_long

  pub made_long : (h : Hard) (s : Side) → length (made h s t plan) ≡ variables t h s
  unfolding made variables
  made_long h s =
      length-append (value_bits t plan) (step_bits h t plan ++ replicate (switches t s) 0)
      ∙ ap₂ ◌+◌ values_long (length-append (step_bits h t plan) (replicate (switches t s) 0) ∙ ap₂ ◌+◌ (steps_long h) (length-replicate (switches t s) 0))
      ∙ sym (add_assoc (values t) (thresholds t h) (switches t s))

-- ---- what an accepted table allows

module _ (ws : List ℕ) (A : Accepted ws) where
  pub rows_few : (p : Part) (plan : List ℕ) → length (rows_of p (table_of ws) plan) ≤ 1024
  rows_few Values plan = omega (arith, values_long (table_of ws) plan, values_small ws A)
  rows_few Thresholds plan = omega (arith, steps_long (table_of ws) plan Regular, thresholds_less ws A, values_small ws A)

  pub boxes_few : box_count ws ≤ 64
  boxes_few = (accepted_parts ws A).boxes.range.1

  pub size_few : (b : ℕ) → 1 ≤ b → b ≤ box_count ws → size_at ws b ≤ 16
  size_few b l h = (accepted_box ws b A (l, h)).values.1
