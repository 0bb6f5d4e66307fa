-- How many lines a sheet has: two, and one for each word. So what follows a sheet begins where that many lines end.
use mathlib.Core.Path.{◌≡◌, refl, sym, ap, ◌∙◌}
use mathlib.Core.Logic.{◌≢◌}
use mathlib.Core.Bool.{Bool, true, false, not}
use mathlib.Core.List.{List, [], ◌∷◌, ◌++◌, flat_map, append_assoc}
use Prim.Native.Nat.{ℕ, zero, suc, ◌+◌, ◌-◌, ◌%◌, ◌/◌, ◌≤◌, ◌<◌}
use native.Mathlib.Omega.{arith}
use lib.ListN.{length, length-append}
use lib.Dec.{eqb}
use borrow.Author.Tests.{lt-leb, eq-eqb, ne_eqb}
use Rattle.lists.specs.Lists.{nth, all, Each}
use Rattle.lists.proofs.Truth.{and_left, and_right}
use Rattle.lists.specs.Decimal.{digits}
use Rattle.lists.proofs.Sums.{each_append}
use Rattle.lists.proofs.Decimal.{by_digits, digits_small, digits_big}
use Rattle.clause.specs.declared.Hard.{Hard}
use Rattle.clause.specs.declared.Hard.TheVariants.{Standard, Regular}
use Rattle.clause.specs.declared.Side.{Side}
use Rattle.clause.specs.declared.Side.TheVariants.{Direct, Support, First, Literals, Score}
use Rattle.table.specs.Table.{Pair, Table, boxes, pair_words, words_of}
use Rattle.text_out.specs.Texts.{line_of, bits_of, row_of}
use Rattle.sheet.specs.Keys.{boxes_key, values_key, pairs_key, first_key, second_key, weight_key, allow_key, hard_line_lem, side_line_lem}
use Rattle.sheet.specs.Sheet.{values_text, rows_text, head_text, pair_text, pairs_text, body_text, sheet_text}
use Rattle.list_scan.specs.ListLines.{line_start_lem}
use Rattle.list_scan.proofs.ListLines.{start_here}

-- t is n lines: the line that is number l after them begins past t
pub record Lines (n : ℕ) (t : List ℕ) : Type 0 where
  pub past : (l : ℕ) (rest : List ℕ) → 0 < l → line_start_lem (l + n) (t ++ rest) ≡ length t + line_start_lem l rest

-- a byte that ends no line
abbrev Plain : ℕ → Type 0
Plain c = c ≢ 10

-- ---- one line

pass : (l c : ℕ) (s : List ℕ) → 1 < l → Plain c → line_start_lem l (c ∷ s) ≡ suc (line_start_lem l s)
unfolding line_start_lem
pass l c s h p = simp (lt-leb l 1 h, ne_eqb c 10 p)

feed : (l : ℕ) (s : List ℕ) → 1 < l → line_start_lem l (10 ∷ s) ≡ suc (line_start_lem (l - 1) s)
unfolding line_start_lem
feed l s h = simp (lt-leb l 1 h)

past_line : (x : List ℕ) → Each Plain x → (l : ℕ) (rest : List ℕ) → 0 < l → line_start_lem (l + 1) ((x ++ (10 ∷ [])) ++ rest) ≡ length x + 1 + line_start_lem l rest
past_line [] e l rest h =
    let same : l + 1 - 1 ≡ l = omega arith in
    omega (arith, feed (l + 1) rest (omega arith), ap (λ (k : ℕ). line_start_lem k rest) same)
past_line (c ∷ x) (p, e) l rest h = omega (arith, pass (l + 1) c ((x ++ (10 ∷ [])) ++ rest) (omega arith) p, past_line x e l rest h)

one_line : (x : List ℕ) → Each Plain x → Lines 1 (x ++ (10 ∷ []))
one_line x e = record { past = λ l rest h. past_line x e l rest h ∙ rw length-append }

-- ---- lines after lines

lines_none : Lines 0 []
lines_none = record { past = λ l rest h. let same : l + 0 ≡ l = omega arith in rw same (omega arith) }

lines_append : {n m : ℕ} (a b : List ℕ) → Lines n a → Lines m b → Lines (n + m) (a ++ b)
lines_append {n} {m} a b p q = record {
  past = λ l rest h.
      let same : l + (n + m) ≡ l + m + n = omega arith in
      rw (append_assoc a b rest, same) (p.past (l + m) (b ++ rest) (omega arith) ∙ omega (arith, q.past l rest h, length-append a b));
}

lines_flat : {A : Type 0} (w t : A → List ℕ) → ((a : A) → Lines (length (w a)) (t a)) → (l : List A) → Lines (length (flat_map w l)) (flat_map t l)
unfolding flat_map
lines_flat w t p [] = lines_none
lines_flat w t p (a ∷ l) = rw (length-append (w a) (flat_map w l)) (lines_append (t a) (flat_map t l) (p a) (lines_flat w t p l))

lines_each : (t : ℕ → List ℕ) → ((v : ℕ) → Lines 1 (t v)) → (l : List ℕ) → Lines (length l) (flat_map t l)
unfolding flat_map
lines_each t p [] = lines_none
lines_each t p (a ∷ l) = let same : suc (length l) ≡ 1 + length l = omega arith in rw same (lines_append (t a) (flat_map t l) (p a) (lines_each t p l))

-- ---- the lines of a sheet

plain_digits : (n : ℕ) → Each Plain (digits n)
plain_digits = by_digits (λ n. Each Plain (digits n)) small big
  where
    small : (n : ℕ) → n < 10 → Each Plain (digits n)
    small n h = rw (digits_small n h) ((λ e. omega arith), tt)

    big : (n : ℕ) → 10 ≤ n → Each Plain (digits (n / 10)) → Each Plain (digits n)
    big n h p = rw (digits_big n h) (each_append Plain (digits (n / 10)) ((48 + n % 10) ∷ []) p ((λ e. omega arith), tt))

plain_bits : (m x : ℕ) → Each Plain (bits_of m x)
unfolding bits_of
plain_bits zero x = tt
plain_bits (suc m) x = ((λ e. omega arith), plain_bits m (x / 2))

number_line_lem : (key : List ℕ) → Each Plain key → (n : ℕ) → Lines 1 (line_of key n)
unfolding line_of
number_line_lem key p n =
    rw (← append_assoc key (digits n) (10 ∷ [])) (one_line (key ++ digits n) (each_append Plain key (digits n) p (plain_digits n)))

row_line : (key : List ℕ) → Each Plain key → (m x : ℕ) → Lines 1 (row_of key m x)
unfolding row_of
row_line key p m x =
    rw (← append_assoc key (bits_of m x) (10 ∷ [])) (one_line (key ++ bits_of m x) (each_append Plain key (bits_of m x) p (plain_bits m x)))

-- no key has a line feed
plain : (key : List ℕ) → all (λ c. not (eqb c 10)) key ≡ true → Each Plain key
plain [] e = tt
plain (c ∷ key) e = (not_ten c (and_left (not (eqb c 10)) _ e), plain key (and_right (not (eqb c 10)) _ e))
  where
    not_ten : (c : ℕ) → not (eqb c 10) ≡ true → Plain c
    not_ten c e z = let o : ◌≡◌ {A = Bool} false true = sym (ap not (eq-eqb c 10 z)) ∙ e in absurd (let p : ◌≡◌ {A = ℕ} 0 1 = cc in omega arith)

pair_lines : (sizes : List ℕ) (p : Pair) → Lines (length (pair_words p)) (pair_text sizes p)
unfolding pair_text head_text rows_text
pair_lines sizes p =
    let m = nth sizes p.second in
    let head = lines_append (line_of first_key p.first) _ (number_line_lem first_key (plain first_key refl) p.first)
    (lines_append (line_of second_key p.second) (line_of weight_key p.weight) (number_line_lem second_key (plain second_key refl) p.second)
    (number_line_lem weight_key (plain weight_key refl) p.weight)) in
    let same : suc (suc (suc (length p.masks))) ≡ 1 + (1 + 1) + length p.masks = omega arith in
    rw same
    (lines_append _ (flat_map (row_of allow_key m) p.masks) head
    (lines_each (row_of allow_key m) (row_line allow_key (plain allow_key refl) m) p.masks))

known_line : (x : List ℕ) → all (λ c. not (eqb c 10)) x ≡ true → Lines 1 (x ++ (10 ∷ []))
known_line x e = one_line x (plain x e)

hard_line_law : (h : Hard) → Lines 1 (hard_line_lem h)
unfolding hard_line_lem
hard_line_law Standard = known_line (104 ∷ 97 ∷ 114 ∷ 100 ∷ 61 ∷ 115 ∷ 116 ∷ 97 ∷ 110 ∷ 100 ∷ 97 ∷ 114 ∷ 100 ∷ []) refl
hard_line_law Regular = known_line (104 ∷ 97 ∷ 114 ∷ 100 ∷ 61 ∷ 114 ∷ 101 ∷ 103 ∷ 117 ∷ 108 ∷ 97 ∷ 114 ∷ []) refl

side_line_law : (d : Side) → Lines 1 (side_line_lem d)
unfolding side_line_lem
side_line_law Direct = known_line (115 ∷ 105 ∷ 100 ∷ 101 ∷ 61 ∷ 100 ∷ 105 ∷ 114 ∷ 101 ∷ 99 ∷ 116 ∷ []) refl
side_line_law Support = known_line (115 ∷ 105 ∷ 100 ∷ 101 ∷ 61 ∷ 115 ∷ 117 ∷ 112 ∷ 112 ∷ 111 ∷ 114 ∷ 116 ∷ []) refl
side_line_law First = known_line (115 ∷ 105 ∷ 100 ∷ 101 ∷ 61 ∷ 102 ∷ 105 ∷ 114 ∷ 115 ∷ 116 ∷ []) refl
side_line_law Literals = known_line (115 ∷ 105 ∷ 100 ∷ 101 ∷ 61 ∷ 108 ∷ 105 ∷ 116 ∷ 101 ∷ 114 ∷ 97 ∷ 108 ∷ 115 ∷ []) refl
side_line_law Score = known_line (115 ∷ 105 ∷ 100 ∷ 101 ∷ 61 ∷ 115 ∷ 99 ∷ 111 ∷ 114 ∷ 101 ∷ []) refl

pub sheet_lines : (h : Hard) (d : Side) (t : Table) → Lines (length (words_of t) + 2) (sheet_text h d t)
unfolding sheet_text body_text values_text pairs_text words_of
sheet_lines h d t =
    let values = flat_map (line_of values_key) t.sizes in
    let rest = flat_map (pair_text t.sizes) t.pairs in
    let n = length t.sizes in
    let m = length (flat_map pair_words t.pairs) in
    let same : suc (suc (n + m)) + 2 ≡ 1 + (1 + (1 + (n + (1 + m)))) = omega arith in
    rw (length-append t.sizes (flat_map pair_words t.pairs), same)
    (lines_append (hard_line_lem h) _ (hard_line_law h)
    (lines_append (side_line_lem d) _ (side_line_law d)
    (lines_append (line_of boxes_key (boxes t)) _ (number_line_lem boxes_key (plain boxes_key refl) (boxes t))
    (lines_append values _ (lines_each (line_of values_key) (number_line_lem values_key (plain values_key refl)) t.sizes)
    (lines_append (line_of pairs_key (length t.pairs)) rest (number_line_lem pairs_key (plain pairs_key refl) (length t.pairs))
    (lines_flat pair_words (pair_text t.sizes) (pair_lines t.sizes) t.pairs))))))

-- what follows a sheet begins at the line past its last
pub sheet_ends : (h : Hard) (d : Side) (t : Table) (more : List ℕ) → line_start_lem (length (words_of t) + 3) (sheet_text h d t ++ more) ≡ length (sheet_text h d t)
sheet_ends h d t more =
    let same : length (words_of t) + 3 ≡ 1 + (length (words_of t) + 2) = omega arith in
    rw same (omega (arith, (sheet_lines h d t).past 1 more (omega arith), start_here 1 more (omega arith)))
