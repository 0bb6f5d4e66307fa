-- The sheet's parts: how long each is, and a turn of the loops that put them. The sheet of a sound table is short.
use mathlib.Core.Path.{◌≡◌, refl}
use mathlib.Core.List.{List, [], ◌∷◌, ◌++◌, flat_map}
use Prim.Native.Nat.{ℕ, ◌+◌, ◌-◌, ◌*◌, ◌^◌, ◌≤◌, ◌<◌}
use native.Mathlib.Omega.{arith}
use lib.ListN.{length, length-append}
use Rattle.clause.specs.declared.Hard.{Hard}
use Rattle.clause.specs.declared.Hard.TheVariants.{Standard, Regular}
use Rattle.clause.specs.declared.Side.{Side}
use Rattle.clause.specs.declared.Side.TheVariants.{Direct, Support, First, Literals, Score}
use Rattle.lists.specs.Lists.{nth, Each}
use Rattle.lists.proofs.Lists.{each_at}
use Rattle.lists.proofs.Sums.{each_as, sum_most, length_flat}
use Rattle.table.specs.Table.{Pair, Table, boxes, In, SoundPair, Sound}
use Rattle.text_out.specs.Texts.{line_of, row_of}
use Rattle.text_out.proofs.Texts.{short_line, length_row}
use Rattle.sheet.specs.Keys.{boxes_key, values_key, pairs_key, first_key, second_key, weight_key, allow_key, hard_line_lem, side_line_lem}
use Rattle.sheet.specs.Sheet.{values_text, rows_text, head_text, pair_text, pairs_text, body_text, sheet_text}

pub length_head : (first second weight : ℕ)
    → length (head_text first second weight) ≡ length (line_of first_key first) + (length (line_of second_key second) + length (line_of weight_key weight))
unfolding head_text
length_head first second weight = simp length-append

pub length_pair : (sizes : List ℕ) (p : Pair)
    → length (pair_text sizes p) ≡ length (head_text p.first p.second p.weight) + length (rows_text (nth sizes p.second) p.masks)
unfolding pair_text
length_pair sizes p = length-append (head_text p.first p.second p.weight) (rows_text (nth sizes p.second) p.masks)

pub length_body : (t : Table)
    → length (body_text t)
    ≡ length (line_of boxes_key (boxes t))
    + (length (values_text t.sizes) + (length (line_of pairs_key (length t.pairs)) + length (pairs_text t.sizes t.pairs)))
unfolding body_text
length_body t = simp length-append

pub length_sheet : (h : Hard) (s : Side) (t : Table) → length (sheet_text h s t) ≡ length (hard_line_lem h) + (length (side_line_lem s) + length (body_text t))
unfolding sheet_text
length_sheet h s t = simp length-append

-- ---- a turn of the loop over the pairs

pub pairs_more : (sizes : List ℕ) (p : Pair) (ps : List Pair) → pairs_text sizes (p ∷ ps) ≡ pair_text sizes p ++ pairs_text sizes ps
unfolding pairs_text flat_map
pairs_more sizes p ps = refl

pub pairs_nil : (sizes : List ℕ) → pairs_text sizes [] ≡ []
unfolding pairs_text flat_map
pairs_nil sizes = refl

-- ---- a sound table's sheet is short

short_flat : {A : Type 0} (g : A → List ℕ) (P : A → Type 0) (k : ℕ) → ((a : A) → P a → length (g a) ≤ k) → (l : List A) → Each P l
    → length (flat_map g l) ≤ length l * k
short_flat g P k f l e = rw length_flat (sum_most (λ a. length (g a)) k l (each_as P (λ a. length (g a) ≤ k) f l e))

short_values : (sizes : List ℕ) → Each (In 1 16) sizes → length (values_text sizes) ≤ length sizes * 15
unfolding values_text
short_values sizes e = short_flat (line_of values_key) (In 1 16) 15 (λ m h. short_line values_key 6 m (omega arith)) sizes e

short_rows : (m : ℕ) (masks : List ℕ) → m ≤ 16 → Each (λ mask. mask < 2 ^ m) masks → length (rows_text m masks) ≤ length masks * 23
unfolding rows_text
short_rows m masks h e = short_flat (row_of allow_key m) (λ mask. mask < 2 ^ m) 23 (λ mask k. omega (arith, length_row allow_key m mask)) masks e

pub size_most : (sizes : List ℕ) (b : ℕ) → Each (In 1 16) sizes → In 1 (length sizes) b → nth sizes b ≤ 16
size_most sizes b e (l, h) = (each_at (In 1 16) 0 sizes e (b - 1) (omega arith)).1

short_pair : (t : Table) (p : Pair) → Sound t → SoundPair t p → length (pair_text t.sizes p) ≤ 500
short_pair t p S q =
    let rows = short_rows (nth t.sizes p.second) p.masks (size_most t.sizes p.second S.sizes q.second) q.masks in
    let count = size_most t.sizes p.first S.sizes q.first in
    let few = S.boxes.1 in
    let one = short_line first_key 6 p.first (omega (arith, q.first.1)) in
    let two = short_line second_key 6 p.second (omega (arith, q.second.1)) in
    let three = short_line weight_key 6 p.weight (omega (arith, q.weight.1)) in
    omega (arith, length_pair t.sizes p, length_head p.first p.second p.weight, q.rows)

short_hard : (h : Hard) → length (hard_line_lem h) ≤ 14
unfolding hard_line_lem
short_hard Standard = omega arith
short_hard Regular = omega arith

pub hard_long : (h : Hard) → 13 ≤ length (hard_line_lem h)
unfolding hard_line_lem
hard_long Standard = omega arith
hard_long Regular = omega arith

short_side : (s : Side) → length (side_line_lem s) ≤ 14
unfolding side_line_lem
short_side Direct = omega arith
short_side Support = omega arith
short_side First = omega arith
short_side Literals = omega arith
short_side Score = omega arith

pub short_sheet : (h : Hard) (s : Side) (t : Table) → Sound t → length (sheet_text h s t) < 1000000
unfolding pairs_text
short_sheet h s t S =
    let pairs = short_flat (pair_text t.sizes) (SoundPair t) 500 (λ p q. short_pair t p S q) t.pairs S.pairs in
    let one = short_line boxes_key 6 (boxes t) (omega (arith, S.boxes.1)) in
    let two = short_line pairs_key 6 (length t.pairs) (omega (arith, S.count)) in
    let values = short_values t.sizes S.sizes in
    omega (arith, length_sheet h s t, length_body t, S.boxes.1, S.count, short_hard h, short_side s)
