-- A row is found exactly where its text stands: its characters are the bits of the mask found, the lowest leftmost.
use Prim.Native.Nat.{ℕ, zero, suc, ◌+◌, ◌-◌, ◌*◌, ◌/◌, ◌%◌, ◌^◌, ◌≤◌, ◌<◌}
use native.Mathlib.Nat.{sub_self, mod-lt, div-add-mod', pow-suc, not-suc-le-zero, add-sub_cancel_left, div-lt_iff_lt-mul}
use native.Mathlib.Numerals.{add-one, sub-one}
use native.Mathlib.Omega.{arith}
use mathlib.Core.Bool.{true, false}
use mathlib.Core.Path.{◌≡◌, refl, sym, ap, ◌∙◌}
use mathlib.Core.List.{List, [], ◌∷◌, ◌++◌}
use lib.ListN.{length, drop, get_or, drop_of_length-le, length-drop}
use lib.Seq.{drop-cons, get_or-drop, drop-drop}
use lib.Arith.{digits_div, digits_mod}
use Rattle.std.specs.Prelude.{Some}
use Rattle.std.proofs.lemmas.Option.{some_pair_parts}
use Rattle.scan.specs.Stands.{Stands, begins}
use Rattle.scan.specs.Lines.{gate}
use Rattle.scan.proofs.Places.{past, stands_of, and_both, begins_append, begins_split}
use Rattle.scan.proofs.Lines.{found_at, gate_open, Exact}
use lib.Pow.{pow_mono}
use lib.Dec.{eqb, leb}
use borrow.Author.Tests.{eqb-true, le-leb, lt-leb, leb-true}
use Rattle.text_out.specs.Texts.{bits_of, row_of}
use Rattle.text_out.proofs.Texts.{length_row, row_split}
use Rattle.row_scan.specs.Rows.{is_row, value_of, row_at}

-- ---- each way that a step of reading goes, at index i of s
module _ (s : List ℕ) (i : ℕ) where
  pub row_none : (m : ℕ) → length s ≤ i → is_row m (drop i s) ≡ false
  unfolding is_row
  row_none zero h = rw (drop_of_length-le s {i = i} h)
  row_none (suc m) h = rw (drop_of_length-le s {i = i} h)

  module _ (h : i < length s) where
    pub row_last : (m : ℕ) → m ≡ 0 → is_row m (drop i s) ≡ eqb (get_or s i 0) 10
    unfolding is_row
    row_last zero e = rw (drop-cons s i 0 h)
    row_last (suc m) e = absurd (omega arith)

    pub row_low : (m : ℕ) → 0 < m → get_or s i 0 < 48 → is_row m (drop i s) ≡ false
    unfolding is_row
    row_low zero p k = absurd (not-suc-le-zero p)
    row_low (suc m) p k = rw (drop-cons s i 0 h) (simp (lt-leb 48 (get_or s i 0) k))

    pub row_high : (m : ℕ) → 0 < m → 49 < get_or s i 0 → is_row m (drop i s) ≡ false
    unfolding is_row
    row_high zero p k = absurd (not-suc-le-zero p)
    row_high (suc m) p k = rw (drop-cons s i 0 h) (simp (le-leb 48 (get_or s i 0) (omega arith), lt-leb (get_or s i 0) 49 k))

    pub row_step : (m : ℕ) → 0 < m → 48 ≤ get_or s i 0 → get_or s i 0 ≤ 49 → is_row m (drop i s) ≡ is_row (m - 1) (drop (i + 1) s)
    unfolding is_row
    row_step zero p k l = absurd (not-suc-le-zero p)
    row_step (suc m) p k l = rw (drop-cons s i 0 h) (simp (le-leb 48 (get_or s i 0) k, le-leb (get_or s i 0) 49 l, sub-one, add-one))

    pub value_step : (m : ℕ) → value_of (suc m) (drop i s) ≡ value_of m (drop (i + 1) s) * 2 + (get_or s i 0 - 48)
    unfolding value_of
    value_step m = rw (drop-cons s i 0 h) (simp add-one)

-- ---- a row's characters

pub record Bit (l : List ℕ) (j : ℕ) : Type 0 where
  pub within : j < length l
  pub low : 48 ≤ get_or l j 0
  pub high : get_or l j 0 ≤ 49

pub row_bit : (m : ℕ) (l : List ℕ) → is_row m l ≡ true → (j : ℕ) → j < m → Bit l j
unfolding is_row
row_bit zero l e j h = absurd (not-suc-le-zero h)
row_bit (suc m) [] e j h = absurd (let o : ◌≡◌ {A = ℕ} 0 1 = cc in omega arith)
row_bit (suc m) (c ∷ l) e zero h =
    let a = and_both (leb 48 c) _ e in
    let b = and_both (leb c 49) _ a.1 in
    record { within = omega arith; low = leb-true 48 c a.0; high = leb-true c 49 b.0 }
row_bit (suc m) (c ∷ l) e (suc j) h =
    let a = and_both (leb 48 c) _ e in
    let b = and_both (leb c 49) _ a.1 in
    let r = row_bit m l b.1 j (omega arith) in
    record { within = omega (arith, r.within); low = r.low; high = r.high }

pub row_long : (m : ℕ) (l : List ℕ) → is_row m l ≡ true → m < length l
unfolding is_row
row_long zero [] e = absurd (let o : ◌≡◌ {A = ℕ} 0 1 = cc in omega arith)
row_long zero (c ∷ l) e = omega arith
row_long (suc m) [] e = absurd (let o : ◌≡◌ {A = ℕ} 0 1 = cc in omega arith)
row_long (suc m) (c ∷ l) e =
    let a = and_both (leb 48 c) _ e in
    let b = and_both (leb c 49) _ a.1 in
    omega (arith, row_long m l b.1)

-- a row of m and its line feed end within s
pub row_ends : (m i : ℕ) (s : List ℕ) → is_row m (drop i s) ≡ true → i + m + 1 ≤ length s
row_ends m i s e = omega (arith, row_long m (drop i s) e, length-drop i s)

-- ---- the loop that goes from the last value down: j is the value that a turn takes in

pub value_none : (m : ℕ) (l : List ℕ) → value_of (m - m) l ≡ 0
unfolding value_of
value_none m l = rw sub_self

small_32 : (v k : ℕ) → k ≤ 32 → v < 2 ^ k → v < 2 ^ 32
small_32 v k h e = omega (arith, pow_mono {i = k} {j = 32} h)

module _ (s : List ℕ) (at m j : ℕ) (r : is_row m (drop at s) ≡ true) (h : 1 ≤ j) (k : j ≤ m) where
  pub turn_bit : Bit s (at + (j - 1))
  turn_bit =
      let b = row_bit m (drop at s) r (j - 1) (omega arith) in
      let g = get_or-drop at s (j - 1) 0 in
      record { within = omega (arith, b.within, length-drop at s); low = rw g at b.low; high = rw g at b.high }

  pub turn_value : (v : ℕ) → v ≡ value_of (m - j) (drop (at + j) s) → v * 2 + (get_or s (at + (j - 1)) 0 - 48) ≡ value_of (m - (j - 1)) (drop (at + (j - 1)) s)
  turn_value v e =
      let n : m - (j - 1) ≡ suc (m - j) = omega arith in
      let i : at + (j - 1) + 1 ≡ at + j = omega arith in
      rw n (rw (e, value_step s (at + (j - 1)) turn_bit.within (m - j), i))

  pub turn_small : (v : ℕ) → v < 2 ^ (m - j) → v * 2 + (get_or s (at + (j - 1)) 0 - 48) < 2 ^ (m - (j - 1))
  turn_small v e =
      let n : m - (j - 1) ≡ suc (m - j) = omega arith in
      rw (n, pow-suc) (omega (arith, turn_bit.high))

  pub turn_in : at + (j - 1) < length s
  turn_in = turn_bit.within

  pub turn_fits : m ≤ 32 → (v : ℕ) → v < 2 ^ (m - j) → v * 2 + (get_or s (at + (j - 1)) 0 - 48) < 2 ^ 32
  turn_fits w v e = small_32 _ (m - (j - 1)) (omega arith) (turn_small v e)

-- ---- what is written is read

pub bits_are_row : (m x : ℕ) (l : List ℕ) → is_row m (bits_of m x ++ (10 ∷ l)) ≡ true
unfolding is_row bits_of
bits_are_row zero x l = refl
bits_are_row (suc m) x l =
    let b : x % 2 < 2 = mod-lt x {m = 2} (omega arith) in
    simp (le-leb 48 (48 + x % 2) (omega arith), le-leb (48 + x % 2) 49 (omega arith)) (bits_are_row m (x / 2) l)

pub value_bits_lem : (m x : ℕ) (l : List ℕ) → x < 2 ^ m → value_of m (bits_of m x ++ l) ≡ x
unfolding value_of bits_of
value_bits_lem zero x l h = omega arith
value_bits_lem (suc m) x l h =
    let s : x / 2 < 2 ^ m = (div-lt_iff_lt-mul {k = 2} (omega arith)).1 (rw pow-suc at h) in
    rw (value_bits_lem m (x / 2) l s, add-sub_cancel_left 48 (x % 2)) (div-add-mod' x 2)

pub row_found : (s : List ℕ) (i : ℕ) (key : List ℕ) (m x : ℕ) (rest : List ℕ) → x < 2 ^ m → drop i s ≡ row_of key m x ++ rest
    → row_at s i key m ≡ Some (x, i + length (row_of key m x))
unfolding row_at gate
row_found s i key m x rest h e =
    let l : List ℕ = bits_of m x ++ (10 ∷ rest) in
    let e' : drop i s ≡ key ++ l = e ∙ sym (row_split key m x rest) in
    let t : begins key (drop i s) ≡ true = rw e' (begins_append key l) in
    rw (t, past s i key l e', bits_are_row m x rest, value_bits_lem m x (10 ∷ rest) h, length_row) (found_at x (omega arith))

-- ---- what is read was written

pub row_text : (m : ℕ) (l : List ℕ) → is_row m l ≡ true → (l ≡ bits_of m (value_of m l) ++ (10 ∷ drop (suc m) l)) × (value_of m l < 2 ^ m)
unfolding is_row bits_of value_of
row_text zero [] e = absurd (let o : ◌≡◌ {A = ℕ} 0 1 = cc in omega arith)
row_text zero (c ∷ l) e = (ap (λ (n : ℕ). n ∷ l) (eqb-true c 10 e), omega arith)
row_text (suc m) [] e = absurd (let o : ◌≡◌ {A = ℕ} 0 1 = cc in omega arith)
row_text (suc m) (c ∷ l) e =
    let a = and_both (leb 48 c) _ e in
    let b = and_both (leb c 49) _ a.1 in
    let low : 48 ≤ c = leb-true 48 c a.0 in
    let high : c ≤ 49 = leb-true c 49 b.0 in
    let d : c - 48 < 2 = omega arith in
    let back : 48 + (c - 48) ≡ c = omega arith in
    let r = row_text m l b.1 in (
      rw (digits_mod (value_of m l) {m = 2} {r = c - 48} d, digits_div (value_of m l) {m = 2} {r = c - 48} d, back) (ap (λ (t : List ℕ). c ∷ t) r.0),
      rw pow-suc (omega (arith, r.1)),
    )

pub record WasRow (s : List ℕ) (i : ℕ) (key : List ℕ) (m x k : ℕ) : Type 0 where
  pub stands : Stands s i (row_of key m x) k
  pub small : x < 2 ^ m

pub row_was : (s : List ℕ) (i : ℕ) (key : List ℕ) (m x k : ℕ) → row_at s i key m ≡ Some (x, k) → WasRow s i key m x k
unfolding row_at
row_was s i key m x k e =
    let a = gate_open (begins key (drop i s)) _ e in
    let l : List ℕ = drop (i + length key) s in
    let b = gate_open (is_row m l) _ a.1 in
    let r = row_text m l b.0 in
    let (same, next) = some_pair_parts _ _ _ _ b.1 in
    let split : drop i s ≡ row_of key m x ++ drop (suc m) l =
    begins_split key (drop i s) a.0 ∙ ap (λ (t : List ℕ). key ++ t)
    (drop-drop (length key) i s ∙ r.0 ∙ ap (λ (v : ℕ). bits_of m v ++ (10 ∷ drop (suc m) l)) same)
    ∙ row_split key m x (drop (suc m) l) in
    let far : k ≡ i + length (row_of key m x) = omega (arith, length_row key m x) in
    record { stands = rw far (stands_of s i (row_of key m x) (drop (suc m) l) split); small = rw same at r.1 }

pub row_found_of : (key : List ℕ) (m x : ℕ) {s : List ℕ} {i k : ℕ} → x < 2 ^ m → Stands s i (row_of key m x) k → row_at s i key m ≡ Some (x, k)
row_found_of key m x {s} {i} {k} h r = row_found s i key m x (drop k s) h r.there ∙ found_at x (sym r.next)

pub exact_row : (s key : List ℕ) (m : ℕ) → Exact s (λ i. row_at s i key m) (row_of key m) (λ x. x < 2 ^ m)
exact_row s key m =
    record {
      found = λ x i k h r. row_found_of key m x h r;
      was = λ x i k e. let w = row_was s i key m x k e in (w.small, w.stands);
      some = λ x. omega (arith, length_row key m x);
    }
