-- Each way that reading a sheet ends, with what is answered and what the table then holds.
use mathlib.Core.Path.{◌≡◌, refl, ap, ◌∙◌}
use mathlib.Core.List.{List, ◌∷◌, ◌++◌}
use Prim.Native.Nat.{ℕ, ◌+◌, ◌≤◌, ◌<◌}
use native.Mathlib.Omega.{arith}
use lib.ListN.{length, length-append, take, drop}
use lib.Seq.{sets, sets-eq, take-append_seam}
use borrow.Author.Tests.{le-leb, lt-leb}
use Rattle.refusal.specs.declared.Refusal.{Refusal}
use Rattle.refusal.specs.declared.Refusal.TheVariants.{Room}
use Rattle.std.specs.Prelude.{Some, None, Result, Ok, Err, ok_or}
use Rattle.scan.specs.Lines.{Line, line_at}
use Rattle.scan.proofs.Lines.{exact_line, exact_moves}
use Rattle.sheet.specs.Keys.{boxes_key, pairs_key}
use Rattle.sheet.proofs.Sheets.{hard_long}
use Rattle.sheet_scan.specs.Found.{hard_at, side_at}
use Rattle.sheet_scan.proofs.Choices.{hard_was, side_was}
use Rattle.sheet_in.specs.declared.ReadSheet.{ReadSheet}
use Rattle.sheet_parts.specs.Reading.{Got, read, fault, words, values_at, pairs_at, Filed, Sized}
use Rattle.sheet_in.specs.Parsed.{Parsed, sheet, faulty, sheet_given, on_word, closed, rest_at, on_sizes, parsed, read_of, table_left}
use Rattle.sheet_parts.proofs.Steps.{same_step}
use Rattle.sheet_in.proofs.Groups.{values_were}

-- what the entry point ensures of its answer and of the lent table
abbrev pub Answered : Parsed → List ℕ → Result ReadSheet Refusal → List ℕ → Type 0
Answered p old r new = (r ≡ read_of p (length old)) × (new ≡ table_left p old)

at_line : (p : Parsed) (old : List ℕ) {l : ℕ} → p ≡ faulty l → Answered p old (Err (Refusal.Line l)) old
at_line p old e = rw e (refl, refl)

-- a line that was due is not found
missed : (x : Line) {l : ℕ} {f : Refusal} → Err f ≡ ok_or x (Refusal.Line l) → (x ≡ None) × (f ≡ Refusal.Line l)
missed None e = (refl, cc)
missed (Some p) e = absurd (let o : ◌≡◌ {A = ℕ} 0 1 = cc in omega arith)

no_room : (p : Parsed) (old : List ℕ) {h d n : ℕ} {ws : List ℕ} → p ≡ sheet h d ws → length ws ≡ n → length old < n
    → Answered p old (Err (Room n)) old
no_room p old {n = n} e z h = rw (e, z, lt-leb n (length old) h) (refl, refl)

all_read : (p : Parsed) (old : List ℕ) {h d n : ℕ} {ws new : List ℕ} → p ≡ sheet h d ws → length ws ≡ n → n ≤ length old → new ≡ sets old 0 ws
    → Answered p old (sheet_given h d n) new
all_read p old {n = n} e z h m = rw (e, z, le-leb n (length old) h) (refl, m)

-- ---- the pairs: g is what was read from line n + 5 on, and w the word past it

module _ (s : List ℕ) (h d : ℕ) (sizes : List ℕ) (i : ℕ) where
  pub no_count : (old : List ℕ) {f : Refusal} → Err f ≡ ok_or (line_at s i pairs_key 0 256) (Refusal.Line (length sizes + 4))
      → Answered (rest_at s h d sizes i) old (Err f) old
  unfolding rest_at on_word
  no_count old e = let m = missed (line_at s i pairs_key 0 256) e in rw (m.0, m.1) (refl, refl)

  module _ {p k : ℕ} (e : line_at s i pairs_key 0 256 ≡ Some (p, k)) (old : List ℕ) where
    bad : (g : Got) {w : ℕ} {o o' : List ℕ} → Filed g (length sizes + 2) o (Err w) o' → closed (length s) h d p sizes g ≡ faulty (w + 3)
    unfolding closed
    bad (read ws j) f = absurd (let z : ◌≡◌ {A = ℕ} 0 1 = cc f.step in omega arith)
    bad (fault ws) {w} f = let z : w ≡ length sizes + 2 + length ws = cc f.step in ap faulty (omega arith)

    good : (g : Got) {j w : ℕ} {o o' : List ℕ} → Filed g (length sizes + 2) o (Ok (j, w)) o' → length s ≤ j
        → (closed (length s) h d p sizes g ≡ sheet h d (length sizes ∷ p ∷ (sizes ++ words g))) × (length (length sizes ∷ p ∷ (sizes ++ words g)) ≡ w)
    unfolding closed
    good (read ws l) {j} {w} f b =
        let (y, z) = same_step f.step in
        (rw (le-leb (length s) l (omega arith)), rw length-append (omega arith))
    good (fault ws) f b = absurd (let z : ◌≡◌ {A = ℕ} 0 1 = cc f.step in omega arith)

    extra : (g : Got) {j w : ℕ} {o o' : List ℕ} → Filed g (length sizes + 2) o (Ok (j, w)) o' → j < length s → closed (length s) h d p sizes g ≡ faulty (w + 3)
    unfolding closed
    extra (read ws l) {j} {w} f b =
        let (y, z) = same_step f.step in
        rw (lt-leb (length s) l (omega arith)) (ap faulty (omega arith))
    extra (fault ws) f b = absurd (let z : ◌≡◌ {A = ℕ} 0 1 = cc f.step in omega arith)

    rest_is : rest_at s h d sizes i ≡ closed (length s) h d p sizes (pairs_at s sizes p k)
    unfolding rest_at on_word
    rest_is = rw e

    pub pair_bad : {w : ℕ} {o o' : List ℕ} → Filed (pairs_at s sizes p k) (length sizes + 2) o (Err w) o'
        → Answered (rest_at s h d sizes i) old (Err (Refusal.Line (w + 3))) old
    pair_bad f = at_line (rest_at s h d sizes i) old (rest_is ∙ bad (pairs_at s sizes p k) f)

    module _ {j w : ℕ} {o o' : List ℕ} (f : Filed (pairs_at s sizes p k) (length sizes + 2) o (Ok (j, w)) o') where
      pub more_text : j < length s → Answered (rest_at s h d sizes i) old (Err (Refusal.Line (w + 3))) old
      more_text b = at_line (rest_at s h d sizes i) old (rest_is ∙ extra (pairs_at s sizes p k) f b)

      pub table_short : length s ≤ j → length old < w → Answered (rest_at s h d sizes i) old (Err (Room w)) old
      table_short b l = let g = good (pairs_at s sizes p k) f b in no_room (rest_at s h d sizes i) old (rest_is ∙ g.0) g.1 l

      pub table_full : {new : List ℕ} → length s ≤ j → w ≤ length old → new ≡ sets old 0 (length sizes ∷ p ∷ (sizes ++ words (pairs_at s sizes p k)))
          → Answered (rest_at s h d sizes i) old (sheet_given h d w) new
      table_full b l m = let g = good (pairs_at s sizes p k) f b in all_read (rest_at s h d sizes i) old (rest_is ∙ g.0) g.1 l m

-- ---- the sizes

-- what was stored from the start stands there
pub taken : (vs o : List ℕ) → length vs ≤ length o → take (length vs) (sets o 0 vs) ≡ vs
taken vs o h = ap (take (length vs)) (sets-eq vs o 0 (omega arith)) ∙ take-append_seam vs (drop (0 + length vs) o)

module _ (s : List ℕ) (h d n i : ℕ) where
  size_bad' : (g : Got) {w : ℕ} {o o' : List ℕ} → Filed g 0 o (Err w) o' → on_sizes s h d g ≡ faulty (w + 4)
  unfolding on_sizes
  size_bad' (read ws j) f = absurd (let z : ◌≡◌ {A = ℕ} 0 1 = cc f.step in omega arith)
  size_bad' (fault ws) {w} f = let z : w ≡ 0 + length ws = cc f.step in ap faulty (omega arith)

  pub size_bad : (old : List ℕ) {w : ℕ} {o o' : List ℕ} → Filed (values_at s n i) 0 o (Err w) o'
      → Answered (on_sizes s h d (values_at s n i)) old (Err (Refusal.Line (w + 4))) old
  size_bad old f = at_line (on_sizes s h d (values_at s n i)) old (size_bad' (values_at s n i) f)

  -- the sizes are those that stand in the array that they were read into
  pub record SizesRead (o : List ℕ) (j w : ℕ) : Type 0 where
    pub word : w ≡ n
    pub sized : Sized (take n o)
    pub long : length (take n o) ≡ n
    pub reads : values_at s n i ≡ read (take n o) j

  pub sizes_read : {j w : ℕ} {o o' : List ℕ} → n ≤ 64 → length o ≡ 64 → Filed (values_at s n i) 0 o (Ok (j, w)) o' → SizesRead o' j w
  sizes_read {j} {w} {o} {o'} few long f = by (values_at s n i) refl f
    where
      by : (g : Got) → values_at s n i ≡ g → Filed g 0 o (Ok (j, w)) o' → SizesRead o' j w
      by (fault ws) q f = absurd (let z : ◌≡◌ {A = ℕ} 0 1 = cc f.step in omega arith)
      by (read ws k) q f =
          let (y, x) = same_step f.step in
          let W = values_were s n i k ws q in
          let same : take n o' ≡ ws = rw (f.list, ← W.count) (taken ws o (omega (arith, W.count))) in
          record {
            word = omega (arith, W.count);
            sized = rw same (record { few = omega (arith, W.count); each = W.holds });
            long = ap length same ∙ W.count;
            reads = q ∙ rw (same, ← y);
          }

  pub sizes_rest : {o : List ℕ} {j w : ℕ} → SizesRead o j w → on_sizes s h d (values_at s n i) ≡ rest_at s h d (take n o) j
  unfolding on_sizes
  sizes_rest R = rw R.reads

-- ---- the first three lines

module _ (s old : List ℕ) {f : Refusal} where
  pub no_hard : Err f ≡ ok_or (hard_at s 0) (Refusal.Line 1) → Answered (parsed s) old (Err f) old
  unfolding parsed on_word
  no_hard e = let m = missed (hard_at s 0) e in rw (m.0, m.1) (refl, refl)

  module _ {h i : ℕ} (p : hard_at s 0 ≡ Some (h, i)) where
    pub no_side : Err f ≡ ok_or (side_at s i) (Refusal.Line 2) → Answered (parsed s) old (Err f) old
    unfolding parsed on_word
    no_side e = let m = missed (side_at s i) e in rw (p, m.0, m.1) (refl, refl)

    pub no_boxes : {d j : ℕ} → side_at s i ≡ Some (d, j) → Err f ≡ ok_or (line_at s j boxes_key 1 64) (Refusal.Line 3)
        → Answered (parsed s) old (Err f) old
    unfolding parsed on_word
    no_boxes {d} {j} q e = let m = missed (line_at s j boxes_key 1 64) e in rw (p, q, m.0, m.1) (refl, refl)

module _ (s : List ℕ) {h i d j n k : ℕ} (p : hard_at s 0 ≡ Some (h, i)) (q : side_at s i ≡ Some (d, j)) (e : line_at s j boxes_key 1 64 ≡ Some (n, k)) where
  pub sizes_next : parsed s ≡ on_sizes s h d (values_at s n k)
  unfolding parsed on_word
  sizes_next = rw (p, q, e)

  pub three_lines : (n ≤ 64) × (k ≤ length s) × (5 ≤ k)
  three_lines =
      let H = hard_was s 0 h i p in
      let D = side_was s i d j q in
      let E = exact_line s boxes_key 1 64 in
      let far = exact_moves E n j k e in
      ((E.was n j k e).0.1, far.1, omega (arith, H.stands.next, hard_long H.hard, D.stands.next))

-- the pairs line moves the place
pub count_moves : (s : List ℕ) (v i k : ℕ) → line_at s i pairs_key 0 256 ≡ Some (v, k) → (i < k) × (k ≤ length s)
count_moves s = exact_moves (exact_line s pairs_key 0 256)
