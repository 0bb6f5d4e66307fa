-- A pair's lines, read and stored one after the other; how far they reach.
use mathlib.Core.Path.{◌≡◌}
use mathlib.Core.List.{List}
use Prim.Native.Nat.{ℕ, ◌+◌, ◌≤◌}
use native.Mathlib.Omega.{arith}
use lib.ListN.{length, set}
use Rattle.lists.specs.Lists.{nth}
use Rattle.table.specs.Table.{In}
use Rattle.std.specs.Prelude.{Some, Err, ok_or}
use Rattle.scan.specs.Lines.{line_at}
use Rattle.row_scan.specs.Rows.{row_at}
use Rattle.scan.proofs.Lines.{exact_line, exact_moves}
use Rattle.row_scan.proofs.Rows.{exact_row}
use Rattle.sheet.specs.Keys.{values_key, first_key, weight_key, allow_key}
use Rattle.sheet_scan.specs.Found.{second_at}
use Rattle.sheet_scan.proofs.Choices.{exact_second}
use Rattle.sheet_parts.specs.Reading.{Step, rows_at, pair_at, pairs_at, Filed, values_at}
use Rattle.sheet_parts.proofs.Steps.{filed_fault, filed_line, Paced, Moves, paced_line, paced_one, paced_many}

pub value_moves : (s : List ℕ) → Moves (length s) (λ i. line_at s i values_key 1 16)
value_moves s = exact_moves (exact_line s values_key 1 16)

pub row_moves : (s : List ℕ) (m : ℕ) → Moves (length s) (λ i. row_at s i allow_key m)
row_moves s m = exact_moves (exact_row s allow_key m)

module _ (s sizes : List ℕ) (i w : ℕ) (old : List ℕ) where
  pub no_first : {u : ℕ} → Err u ≡ ok_or (line_at s i first_key 1 (length sizes)) w → Filed (pair_at s sizes i) w old (Err u) old
  unfolding pair_at
  no_first e = filed_fault _ _ e

  module _ {a j : ℕ} {one : List ℕ} (p : line_at s i first_key 1 (length sizes) ≡ Some (a, j)) (m : one ≡ set old w a) where
    pub no_second : {u : ℕ} → Err u ≡ ok_or (second_at s (length sizes) a j) (w + 1) → Filed (pair_at s sizes i) w old (Err u) one
    unfolding pair_at
    no_second e = filed_line _ _ p m (filed_fault _ _ e)

    module _ {b k : ℕ} {two : List ℕ} (q : second_at s (length sizes) a j ≡ Some (b, k)) (m' : two ≡ set one (w + 1) b) where
      pub no_weight : {u : ℕ} → Err u ≡ ok_or (line_at s k weight_key 1 1000000) (w + 1 + 1) → Filed (pair_at s sizes i) w old (Err u) two
      unfolding pair_at
      no_weight e = filed_line _ _ p m (filed_line _ _ q m' (filed_fault _ _ e))

      pub pair_rows : {x l : ℕ} {three new : List ℕ} {r : Step} → line_at s k weight_key 1 1000000 ≡ Some (x, l) → three ≡ set two (w + 1 + 1) x
          → Filed (rows_at s (nth sizes b) (nth sizes a) l) (w + 1 + 1 + 1) three r new → Filed (pair_at s sizes i) w old r new
      unfolding pair_at
      pair_rows e n f = filed_line _ _ p m (filed_line _ _ q m' (filed_line _ _ e n f))

-- ---- what the three lines before the masks say

pub record Heads (s sizes : List ℕ) (i a b l : ℕ) : Type 0 where
  pub first : In 1 (length sizes) a
  pub second : In 1 (length sizes) b
  pub pace : i + 3 ≤ l
  pub inside : l ≤ length s

pub heads : (s sizes : List ℕ) (i : ℕ) {a j b k x l : ℕ} → line_at s i first_key 1 (length sizes) ≡ Some (a, j) → second_at s (length sizes) a j ≡ Some (b, k)
    → line_at s k weight_key 1 1000000 ≡ Some (x, l) → Heads s sizes i a b l
heads s sizes i {a} {j} {b} {k} {x} {l} p q e =
    let one = exact_moves (exact_line s first_key 1 (length sizes)) a i j p in
    let two = exact_moves (exact_second s (length sizes) a) b j k q in
    let three = exact_moves (exact_line s weight_key 1 1000000) x k l e in
    record {
      first = ((exact_line s first_key 1 (length sizes)).was a i j p).0;
      second = ((exact_second s (length sizes) a).was b j k q).0.0;
      pace = omega arith;
      inside = three.1;
    }

-- ---- pace

pub paced_values : (s : List ℕ) (n i : ℕ) → i ≤ length s → Paced (length s) i (values_at s n i)
paced_values s n i h = paced_many (length s) _ (λ i h. paced_one (length s) _ (value_moves s) i h) n i h

paced_rows : (s : List ℕ) (m n i : ℕ) → i ≤ length s → Paced (length s) i (rows_at s m n i)
paced_rows s m n i h = paced_many (length s) _ (λ i h. paced_one (length s) _ (row_moves s m) i h) n i h

pub paced_pair : (s sizes : List ℕ) (i : ℕ) → i ≤ length s → Paced (length s) i (pair_at s sizes i)
unfolding pair_at
paced_pair s sizes i h =
    paced_line (length s) i _ _ h (λ v k e. exact_moves (exact_line s first_key 1 (length sizes)) v i k e) (λ a j e h.
    paced_line (length s) j _ _ h (λ v k e. exact_moves (exact_second s (length sizes) a) v j k e) (λ b k e h.
    paced_line (length s) k _ _ h (λ v l e. exact_moves (exact_line s weight_key 1 1000000) v k l e) (λ w l e h.
    paced_rows s (nth sizes b) (nth sizes a) l h)))

pub paced_pairs : (s sizes : List ℕ) (p i : ℕ) → i ≤ length s → Paced (length s) i (pairs_at s sizes p i)
paced_pairs s sizes p i h = paced_many (length s) _ (paced_pair s sizes) p i h
