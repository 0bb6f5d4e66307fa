-- The table that accepted words mean, part by part: its counts, its sizes, its pairs, and a pair's masks.
use mathlib.Core.Path.{◌≡◌, refl, ap, ◌∙◌}
use mathlib.Core.List.{List}
use Prim.Native.Nat.{ℕ, ◌+◌, ◌-◌, ◌≤◌, ◌<◌}
use native.Mathlib.Omega.{arith}
use lib.ListN.{length, get_or, drop, length-drop}
use lib.Seq.{length-take-le, get_or-take, get_or-drop}
use Rattle.lists.specs.Lists.{nth, sum_of}
use Rattle.table.specs.declared.Counts.{Counts}
use Rattle.table.specs.Table.{Pair, boxes, size, In}
use Rattle.table.specs.Words.{box_count, pair_count, size_at, pair_at, pair_next, pairs_at, table_of, Accepted, BoxStands, PairStands, Ahead}
use Rattle.table.specs.Answers.{Counted}
use Rattle.table.proofs.Words.{accepted_fine, accepted_parts, table_counts, box_stands, pairs_ahead, pairs_turn, pairs_last}

pub table_boxes : (ws : List ℕ) → Accepted ws → boxes (table_of ws) ≡ box_count ws
table_boxes ws A = (table_counts ws (accepted_fine ws (table_of ws) A).0).0

pub table_count : (ws : List ℕ) → Accepted ws → length (table_of ws).pairs ≡ pair_count ws
table_count ws A = (table_counts ws (accepted_fine ws (table_of ws) A).0).1

pub table_size : (ws : List ℕ) (b : ℕ) → 1 ≤ b → b ≤ box_count ws → size (table_of ws) b ≡ size_at ws b
unfolding table_of
table_size ws b l h =
    let z : 2 + (b - 1) ≡ b + 1 = omega arith in
    get_or-take (box_count ws) (drop 2 ws) (b - 1) 0 (omega arith) ∙ get_or-drop 2 ws (b - 1) 0 ∙ ap (λ (j : ℕ). get_or ws j 0) z

pub table_pairs : (ws : List ℕ) → (table_of ws).pairs ≡ pairs_at ws (pair_count ws) (box_count ws + 2)
unfolding table_of
table_pairs ws = refl

-- ---- what stands in accepted words: the readings that the building blocks ask for

pub accepted_box : (ws : List ℕ) (b : ℕ) → Accepted ws → In 1 (box_count ws) b → BoxStands ws b
accepted_box ws b A h = box_stands ws b (accepted_parts ws A).sizes h

pub accepted_ahead : (ws : List ℕ) → Accepted ws → Ahead ws (pair_count ws) (box_count ws + 2)
accepted_ahead ws A = let p = accepted_parts ws A in pairs_ahead ws (pair_count ws) (box_count ws + 2) p.sizes p.each

-- ---- a loop over the pairs: where it starts, and a sum over the pairs ahead

pub record Start (ws : List ℕ) (c : Counts) : Type 0 where
  pub boxes : c.boxes ≡ box_count ws
  pub pairs : c.pairs ≡ pair_count ws
  pub few_boxes : box_count ws ≤ 64
  pub few_pairs : pair_count ws ≤ 256
  pub ahead : Ahead ws c.pairs (c.boxes + 2)

pub counted_start : (ws : List ℕ) (c : Counts) → Counted ws c → Start ws c
counted_start ws c C =
    let n = C.boxes ∙ table_boxes ws C.table in
    let p = C.pairs ∙ table_count ws C.table in
    let parts = accepted_parts ws C.table in
    record {
      boxes = n;
      pairs = p;
      few_boxes = parts.boxes.range.1;
      few_pairs = parts.pairs.range.1;
      ahead = rw (p, n) (accepted_ahead ws C.table);
    }

-- the sum of f over the k pairs from a cursor on
abbrev pub sum_ahead : List ℕ → (Pair → ℕ) → ℕ → ℕ → ℕ
sum_ahead ws f k at = sum_of f (pairs_at ws k at)

pub sum_turn : (ws : List ℕ) (f : Pair → ℕ) (p k at : ℕ) → k < p → sum_ahead ws f (p - k) at ≡ f (pair_at ws at) + sum_ahead ws f (p - (k + 1)) (pair_next ws at)
sum_turn ws f p k at h = ap (sum_of f) (pairs_turn ws p k at h)

pub sum_last : (ws : List ℕ) (f : Pair → ℕ) (p k at : ℕ) → p - k ≡ 0 → sum_ahead ws f (p - k) at ≡ 0
sum_last ws f p k at e = ap (sum_of f) (pairs_last ws p k at e)

-- ---- a pair by its words

pub pair_first : (ws : List ℕ) (at : ℕ) → (pair_at ws at).first ≡ get_or ws at 0
unfolding pair_at
pair_first ws at = refl

pub pair_second : (ws : List ℕ) (at : ℕ) → (pair_at ws at).second ≡ get_or ws (at + 1) 0
unfolding pair_at
pair_second ws at = refl

pub pair_weight : (ws : List ℕ) (at : ℕ) → (pair_at ws at).weight ≡ get_or ws (at + 2) 0
unfolding pair_at
pair_weight ws at = refl

pub mask_count : (ws : List ℕ) (at : ℕ) → PairStands ws at → length (pair_at ws at).masks ≡ size_at ws (get_or ws at 0)
unfolding pair_at
mask_count ws at S = length-take-le (size_at ws (get_or ws at 0)) (drop (at + 3) ws) (rw length-drop (omega (arith, S.ends)))

-- by index, and by the value of the first box
pub mask_at : (ws : List ℕ) (at i : ℕ) → i < size_at ws (get_or ws at 0) → get_or (pair_at ws at).masks i 0 ≡ get_or ws (at + 3 + i) 0
unfolding pair_at
mask_at ws at i h = get_or-take (size_at ws (get_or ws at 0)) (drop (at + 3) ws) i 0 h ∙ get_or-drop (at + 3) ws i 0

pub pair_mask : (ws : List ℕ) (at i : ℕ) → 1 ≤ i → i ≤ size_at ws (get_or ws at 0) → nth (pair_at ws at).masks i ≡ get_or ws (at + 2 + i) 0
pair_mask ws at i l h =
    let place : at + 3 + (i - 1) ≡ at + 2 + i = omega arith in
    mask_at ws at (i - 1) (omega arith) ∙ ap (λ (k : ℕ). get_or ws k 0) place
