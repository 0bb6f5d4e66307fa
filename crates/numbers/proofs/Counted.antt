-- How many variables stand before a box: a box more adds its own, and a box has one threshold less than values.
use mathlib.Core.Path.{◌≡◌, refl, sym, ap, ◌∙◌}
use mathlib.Core.List.{List, [], ◌∷◌, map}
use Prim.Native.Nat.{ℕ, zero, suc, ◌+◌, ◌-◌, ◌*◌, ◌≤◌, ◌<◌, pred}
use native.Mathlib.Nat.{add-zero}
use native.Mathlib.Omega.{arith}
use lib.ListN.{length, get_or, take, length-map}
use lib.Seq.{take-suc, take-length}
use Rattle.lists.specs.Lists.{sum_of, before, Each}
use Rattle.lists.proofs.Lists.{sum_append}
use Rattle.table.specs.Table.{In}
use Rattle.table.specs.Words.{box_count, pair_count, size_at, table_of, Accepted}
use Rattle.table.proofs.Words.{accepted_parts}
use Rattle.table.proofs.Tables.{table_boxes, table_count, table_size}
use Rattle.clause.specs.declared.Hard.{Hard}
use Rattle.clause.specs.declared.Hard.TheVariants.{Standard, Regular}
use Rattle.clause.specs.declared.Side.{Side}
use Rattle.clause.specs.declared.Side.TheVariants.{Direct, Support, First, Literals, Score}
use Rattle.table.proofs.Round.{accepted_sound}
use Rattle.clause.specs.Numbers.{values, value_base_lem, step_base_lem, thresholds, switches}

-- ---- sums of a list's first entries

sum_turn : (l : List ℕ) (k : ℕ) → k < length l → sum_of (λ m. m) (take (suc k) l) ≡ sum_of (λ m. m) (take k l) + get_or l k 0
sum_turn l k h =
    ap (sum_of (λ m. m)) (take-suc l k 0 h) ∙ sum_append (λ m. m) (take k l) (get_or l k 0 ∷ [])
    ∙ ap (λ (n : ℕ). sum_of (λ m. m) (take k l) + n) (add-zero (get_or l k 0))

-- one threshold less than values for each of the first k
steps_less : (l : List ℕ) (k : ℕ) → Each (In 1 16) l → k ≤ length l → sum_of (λ m. m) (take k (map pred l)) + k ≡ sum_of (λ m. m) (take k l)
steps_less l zero e h = refl
steps_less [] (suc k) e h = absurd (omega arith)
steps_less (m ∷ l) (suc k) (i, e) h =
    let z : pred m + 1 ≡ m = omega arith in
    omega (arith, steps_less l k e (omega arith))

sum_few : (l : List ℕ) (k : ℕ) → Each (In 1 16) l → sum_of (λ m. m) (take k l) ≤ 16 * k
sum_few l zero e = omega arith
sum_few [] (suc k) e = omega arith
sum_few (m ∷ l) (suc k) (i, e) = omega (arith, sum_few l k e)

-- ---- the boxes of a table

module _ (ws : List ℕ) (A : Accepted ws) where
  sizes_fine : Each (In 1 16) (table_of ws).sizes
  sizes_fine = (accepted_sound ws (table_of ws) A).sizes

  pub base_first : value_base_lem (table_of ws) 1 ≡ 0
  unfolding value_base_lem before
  base_first = refl

  pub base_turn : (b : ℕ) → In 1 (box_count ws) b → value_base_lem (table_of ws) (b + 1) ≡ value_base_lem (table_of ws) b + size_at ws b
  unfolding value_base_lem before
  base_turn b (l, h) =
      let n = table_boxes ws A in
      let z : b + 1 - 1 ≡ suc (b - 1) = omega arith in
      rw (z, ← table_size ws b l h) (sum_turn (table_of ws).sizes (b - 1) (omega arith))

  pub base_few : (b : ℕ) → In 1 (box_count ws + 1) b → value_base_lem (table_of ws) b ≤ 16 * (b - 1)
  unfolding value_base_lem before
  base_few b h = sum_few (table_of ws).sizes (b - 1) sizes_fine

  pub base_all : value_base_lem (table_of ws) (box_count ws + 1) ≡ values (table_of ws)
  unfolding value_base_lem before values
  base_all =
      let z : box_count ws + 1 - 1 ≡ length (table_of ws).sizes = omega (arith, table_boxes ws A) in
      rw (z, take-length)

  pub step_base_law : (b : ℕ) → In 1 (box_count ws + 1) b → step_base_lem (table_of ws) b + (b - 1) ≡ values (table_of ws) + value_base_lem (table_of ws) b
  unfolding step_base_lem value_base_lem before
  step_base_law b (l, h) =
      let n = table_boxes ws A in
      omega (arith, steps_less (table_of ws).sizes (b - 1) sizes_fine (omega arith))

  -- ---- small numbers

  pub few_boxes : box_count ws ≤ 64
  few_boxes = (accepted_parts ws A).boxes.range.1

  pub base_small : (b : ℕ) → In 1 (box_count ws + 1) b → value_base_lem (table_of ws) b ≤ 1024
  base_small b (l, h) = omega (arith, base_few b (l, h), few_boxes)

  pub values_small : values (table_of ws) ≤ 1024
  values_small = omega (arith, base_all, base_small (box_count ws + 1) (omega arith, omega arith))

  pub step_small : (b : ℕ) → In 1 (box_count ws + 1) b → step_base_lem (table_of ws) b ≤ 2048
  step_small b h = omega (arith, step_base_law b h, values_small, base_small b h)

  -- ---- thresholds and switches

  pub thresholds_less : thresholds (table_of ws) Regular + box_count ws ≡ values (table_of ws)
  unfolding thresholds values
  thresholds_less =
      let n = table_boxes ws A in
      let k = length-map (table_of ws).sizes pred in
      let all = steps_less (table_of ws).sizes (length (table_of ws).sizes) sizes_fine (omega arith) in
      rw (← n) (rw (take-length (table_of ws).sizes) at
      (rw (ap (λ (j : ℕ). take j (map pred (table_of ws).sizes)) (sym k) ∙ take-length (map pred (table_of ws).sizes)) at all))

  pub switches_support : switches (table_of ws) Support ≡ pair_count ws
  unfolding switches
  switches_support = table_count ws A

  pub switches_few : (s : Side) → switches (table_of ws) s ≤ 256
  unfolding switches
  switches_few Direct = omega arith
  switches_few Support = omega (arith, table_count ws A, (accepted_parts ws A).pairs.range.1)
  switches_few First = omega arith
  switches_few Literals = omega arith
  switches_few Score = omega arith

  pub bases_few : (h : Hard) → values (table_of ws) + thresholds (table_of ws) h ≤ 2048
  unfolding thresholds
  bases_few Standard = omega (arith, values_small)
  bases_few Regular = omega (arith, values_small, thresholds_less)
