-- A line is found exactly where its text stands: reading goes over the digits of a number, and digits that were read are those of the number found.
use Prim.Native.Nat.{ℕ, ◌+◌, ◌*◌, ◌-◌, ◌/◌, ◌%◌, ◌≤◌, ◌<◌}
use native.Mathlib.Nat.{add_assoc, mod-lt, div-add-mod', div-le_self, add-sub_cancel_left}
use native.Mathlib.Omega.{arith}
use mathlib.Core.Bool.{Bool, true, false}
use mathlib.Core.Path.{◌≡◌, refl, sym, ap, ◌∙◌}
use mathlib.Core.List.{List, [], ◌∷◌, ◌++◌, append_assoc}
use lib.ListN.{length, length-append, drop, get_or, drop_of_length-le}
use lib.Seq.{drop-cons, drop-drop}
use mathlib.Core.Logic.{◌⊎◌, inl, inr, ⊎_elim}
use native.Mathlib.Numerals.{add-one}
use lib.Dec.{eqb, leb, ltb}
use borrow.Author.Tests.{eq-eqb, ne_eqb, eqb-true, le-leb, lt-leb, lt-ltb, le-ltb, leb-true, ltb-true}
use Rattle.scan.specs.Stands.{Stands, begins}
use Rattle.scan.proofs.Places.{past, stands_of, stands_moves, begins_append, begins_split}
use Rattle.std.specs.Prelude.{Some, None}
use Rattle.std.proofs.lemmas.Option.{some_pair_parts}
use Rattle.lists.specs.Decimal.{digits}
use Rattle.text_out.specs.Texts.{line_of}
use Rattle.text_out.proofs.Texts.{length_line, line_split}
use Rattle.scan.specs.Lines.{Line, gate, either, digits_at_lem, number_at, line_at, word_at}
use Rattle.lists.proofs.Decimal.{by_digits, digits_small, digits_big, digits_more}

-- ---- what is found, at an equal place

pub found_at : (n : ℕ) {i k : ℕ} → i ≡ k → ◌≡◌ {A = Line} (Some (n, i)) (Some (n, k))
found_at n e = ap (λ (j : ℕ). Some (n, j)) e

-- ---- each way that a step of reading goes, at index i of s
module _ (stop low high : ℕ) (s : List ℕ) (i : ℕ) where
  pub number_none : length s ≤ i → number_at stop low high i (drop i s) ≡ None
  unfolding number_at
  number_none h = rw (drop_of_length-le s {i = i} h)

  pub number_low : i < length s → get_or s i 0 < 48 → number_at stop low high i (drop i s) ≡ None
  unfolding number_at gate
  number_low h k = rw (drop-cons s i 0 h) (simp (lt-leb 48 (get_or s i 0) k))

  pub number_high : i < length s → 57 < get_or s i 0 → number_at stop low high i (drop i s) ≡ None
  unfolding number_at gate
  number_high h k = rw (drop-cons s i 0 h) (simp (le-leb 48 (get_or s i 0) (omega arith), lt-leb (get_or s i 0) 57 k))

  pub number_first : i < length s → 48 ≤ get_or s i 0 → get_or s i 0 ≤ 57
      → number_at stop low high i (drop i s) ≡ digits_at_lem stop low high (get_or s i 0 - 48) (i + 1) (drop (i + 1) s)
  unfolding number_at gate
  number_first h k m = rw (add-one, drop-cons s i 0 h) (simp (le-leb 48 (get_or s i 0) k, le-leb (get_or s i 0) 57 m, add-one))

  module _ (v : ℕ) where
    pub rest_none : length s ≤ i → digits_at_lem stop low high v i (drop i s) ≡ None
    unfolding digits_at_lem
    rest_none h = rw (drop_of_length-le s {i = i} h)

    pub rest_over : high < v → digits_at_lem stop low high v i (drop i s) ≡ None
    unfolding digits_at_lem gate
    rest_over o = over (drop i s)
      where
        over : (l : List ℕ) → digits_at_lem stop low high v i l ≡ None
        over [] = refl
        over (c ∷ l) = simp (lt-leb v high o)

    pub rest_under : i < length s → v ≤ high → get_or s i 0 ≡ stop → v < low → digits_at_lem stop low high v i (drop i s) ≡ None
    unfolding digits_at_lem gate either
    rest_under h b e u = rw (drop-cons s i 0 h) (simp (le-leb v high b, eq-eqb (get_or s i 0) stop e, lt-leb low v u))

    pub rest_end : i < length s → v ≤ high → get_or s i 0 ≡ stop → low ≤ v → digits_at_lem stop low high v i (drop i s) ≡ Some (v, i + 1)
    unfolding digits_at_lem gate either
    rest_end h b e u = rw (drop-cons s i 0 h) (simp (le-leb v high b, eq-eqb (get_or s i 0) stop e, le-leb low v u))

    -- a byte that does not close the number
    module _ (h : i < length s) (b : v ≤ high) (n : get_or s i 0 ≡ stop → ⊥) where
      pub rest_low : get_or s i 0 < 48 → digits_at_lem stop low high v i (drop i s) ≡ None
      unfolding digits_at_lem gate either
      rest_low k = rw (drop-cons s i 0 h) (simp (le-leb v high b, ne_eqb (get_or s i 0) stop n, lt-leb 48 (get_or s i 0) k))

      pub rest_high : 57 < get_or s i 0 → digits_at_lem stop low high v i (drop i s) ≡ None
      unfolding digits_at_lem gate either
      rest_high k = rw (drop-cons s i 0 h) (simp (le-leb v high b, ne_eqb (get_or s i 0) stop n, le-leb 48 (get_or s i 0) (omega arith), lt-leb (get_or s i 0) 57 k))

      module _ (l : 48 ≤ get_or s i 0) (m : get_or s i 0 ≤ 57) where
        pub rest_zero : v ≡ 0 → digits_at_lem stop low high v i (drop i s) ≡ None
        unfolding digits_at_lem gate either
        rest_zero z =
            rw (drop-cons s i 0 h)
            (simp (le-leb v high b, ne_eqb (get_or s i 0) stop n, le-leb 48 (get_or s i 0) l, le-leb (get_or s i 0) 57 m, le-ltb 0 v (omega arith)))

        pub rest_step : 0 < v → digits_at_lem stop low high v i (drop i s) ≡ digits_at_lem stop low high (v * 10 + (get_or s i 0 - 48)) (i + 1) (drop (i + 1) s)
        unfolding digits_at_lem gate either
        rest_step z =
            rw (drop-cons s i 0 h)
            (simp (le-leb v high b, ne_eqb (get_or s i 0) stop n, le-leb 48 (get_or s i 0) l, le-leb (get_or s i 0) 57 m, lt-ltb 0 v z, add-one))

-- ---- what is written is read

step : (stop low high v i d : ℕ) (l : List ℕ) → stop < 48 → v ≤ high → 0 < v → d < 10
    → digits_at_lem stop low high v i ((48 + d) ∷ l) ≡ digits_at_lem stop low high (v * 10 + d) (i + 1) l
unfolding digits_at_lem gate either
step stop low high v i d l q b p h =
    simp (
      le-leb v high b,
      ne_eqb (48 + d) stop (λ e. omega arith),
      le-leb 48 (48 + d) (omega arith),
      le-leb (48 + d) 57 (omega arith),
      lt-ltb 0 v p,
      add-sub_cancel_left 48 d,
    )

-- reading goes over the digits of w, whatever follows
pub number_digits : (stop low high i w : ℕ) → stop < 48 → (l : List ℕ) → w ≤ high
    → number_at stop low high i (digits w ++ l) ≡ digits_at_lem stop low high w (i + length (digits w)) l
unfolding number_at gate
number_digits stop low high i w q =
    by_digits (λ (w : ℕ). (l : List ℕ) → w ≤ high → number_at stop low high i (digits w ++ l) ≡ digits_at_lem stop low high w (i + length (digits w)) l) small big w
  where
    small : (n : ℕ) → n < 10 → (l : List ℕ) → n ≤ high → number_at stop low high i (digits n ++ l) ≡ digits_at_lem stop low high n (i + length (digits n)) l
    small n s l h =
        rw (digits_small n s) (simp (le-leb 48 (48 + n) (omega arith), le-leb (48 + n) 57 (omega arith), add-sub_cancel_left 48 n))

    big : (n : ℕ) → 10 ≤ n
        → ((l : List ℕ) → n / 10 ≤ high → number_at stop low high i (digits (n / 10) ++ l) ≡ digits_at_lem stop low high (n / 10) (i + length (digits (n / 10))) l)
        → (l : List ℕ) → n ≤ high → number_at stop low high i (digits n ++ l) ≡ digits_at_lem stop low high n (i + length (digits n)) l
    big n b ih l h =
        let below : n / 10 ≤ high = omega (arith, div-le_self n 10) in
        let last : n % 10 < 10 = mod-lt n {m = 10} (omega arith) in
        let split : n / 10 * 10 + n % 10 ≡ n = div-add-mod' n 10 in
        rw (digits_big n b, append_assoc, length-append)
        (ih ((48 + n % 10) ∷ l) below
        ∙ step stop low high (n / 10) (i + length (digits (n / 10))) (n % 10) l q below (omega arith) last
        ∙ rw (split, add_assoc))

pub end : (stop low high v i : ℕ) (l : List ℕ) → low ≤ v → v ≤ high → digits_at_lem stop low high v i (stop ∷ l) ≡ Some (v, i + 1)
unfolding digits_at_lem gate either
end stop low high v i l a b = simp (le-leb v high b, eq-eqb stop stop refl, le-leb low v a)

-- a line of a number from low to high that stands at i is found there
pub line_found_lem : (s : List ℕ) (i : ℕ) (key : List ℕ) (low high n : ℕ) (rest : List ℕ) → low ≤ n → n ≤ high → drop i s ≡ line_of key n ++ rest
    → line_at s i key low high ≡ Some (n, i + length (line_of key n))
unfolding line_at gate line_of
line_found_lem s i key low high n rest a b e =
    let e' : drop i s ≡ key ++ (digits n ++ (10 ∷ rest)) = e ∙ sym (line_split key n rest) in
    let t : begins key (drop i s) ≡ true = rw e' (begins_append key (digits n ++ (10 ∷ rest))) in
    rw (t, past s i key (digits n ++ (10 ∷ rest)) e')
    (number_digits 10 low high (i + length key) n (omega arith) (10 ∷ rest) b
    ∙ end 10 low high n (i + length key + length (digits n)) rest a b
    ∙ found_at n (simp length-append (omega arith)))

-- ---- what is read was written

pub record Sound (stop low high v i : ℕ) (l : List ℕ) (w k : ℕ) : Type 0 where
  pub rest : List ℕ
  pub text : digits v ++ l ≡ digits w ++ (stop ∷ rest)
  pub place : i + length l ≡ k + length rest
  pub least : low ≤ w
  pub most : w ≤ high

pub gate_open : (b : Bool) (x : Line) {w k : ℕ} → gate b x ≡ Some (w, k) → (b ≡ true) × (x ≡ Some (w, k))
unfolding gate
gate_open true x e = (refl, e)
gate_open false x e = absurd (let o : ◌≡◌ {A = ℕ} 0 1 = cc in omega arith)

either_way : (b : Bool) (x y z : Line) → either b x y ≡ z → ((b ≡ true) × (x ≡ z)) ⊎ ((b ≡ false) × (y ≡ z))
unfolding either
either_way true x y z e = inl (refl, e)
either_way false x y z e = inr (refl, e)

sound_end : (stop low high v i c : ℕ) (l : List ℕ) {w k : ℕ} → v ≤ high → low ≤ v → c ≡ stop → ◌≡◌ {A = Line} (Some (v, i + 1)) (Some (w, k)) → Sound stop low high v i (c ∷ l) w k
sound_end stop low high v i c l {w} {k} b a t e =
    let (same, next) = some_pair_parts _ _ _ _ e in
    record { rest = l; text = rw (t, same); place = omega arith; least = omega arith; most = omega arith }

sound_digit : (stop low high v i c : ℕ) (l : List ℕ) {w k : ℕ} → 48 ≤ c → c ≤ 57 → 0 < v → Sound stop low high (v * 10 + (c - 48)) (i + 1) l w k
    → Sound stop low high v i (c ∷ l) w k
sound_digit stop low high v i c l {w} {k} a b p z =
    let back : 48 + (c - 48) ≡ c = omega arith in
    let text : digits (v * 10 + (c - 48)) ≡ digits v ++ (c ∷ []) = rw back at (digits_more v (c - 48) p (omega arith)) in
    record {
      rest = z.rest;
      text = sym (append_assoc (digits v) (c ∷ []) l) ∙ rw text at z.text;
      place = omega (arith, z.place);
      least = z.least;
      most = z.most;
    }

pub rest_sound : (stop low high v i : ℕ) (l : List ℕ) {w k : ℕ} → digits_at_lem stop low high v i l ≡ Some (w, k) → Sound stop low high v i l w k
unfolding digits_at_lem
rest_sound stop low high v i [] e = absurd (let o : ◌≡◌ {A = ℕ} 0 1 = cc in omega arith)
rest_sound stop low high v i (c ∷ l) {w} {k} e =
    let a = gate_open (leb v high) _ e in
    ⊎_elim
    (λ q.
    let r = gate_open (leb low v) (Some (v, i + 1)) q.1 in
    sound_end stop low high v i c l (leb-true v high a.0) (leb-true low v r.0) (eqb-true c stop q.0) r.1)
    (λ q.
    let r = gate_open (leb 48 c) _ q.1 in
    let t = gate_open (leb c 57) _ r.1 in
    let u = gate_open (ltb 0 v) _ t.1 in
    sound_digit stop low high v i c l (leb-true 48 c r.0) (leb-true c 57 t.0) (ltb-true 0 v u.0)
    (rest_sound stop low high (v * 10 + (c - 48)) (i + 1) l u.1))
    (either_way (eqb c stop) _ _ _ a.1)

pub number_sound : (stop low high i : ℕ) (l : List ℕ) {w k : ℕ} → number_at stop low high i l ≡ Some (w, k)
    → (rest : List ℕ) × (l ≡ digits w ++ (stop ∷ rest)) × (i + length l ≡ k + length rest) × (low ≤ w) × (w ≤ high)
unfolding number_at
number_sound stop low high i [] e = absurd (let o : ◌≡◌ {A = ℕ} 0 1 = cc in omega arith)
number_sound stop low high i (c ∷ l) {w} {k} e =
    let r = gate_open (leb 48 c) _ e in
    let t = gate_open (leb c 57) _ r.1 in
    let z = rest_sound stop low high (c - 48) (i + 1) l t.1 in
    let h : c ≤ 57 = leb-true c 57 t.0 in
    let g : 48 ≤ c = leb-true 48 c r.0 in
    let back : 48 + (c - 48) ≡ c = omega arith in
    (z.rest, rw (digits_small (c - 48) (omega arith), back) at z.text, omega (arith, z.place), z.least, z.most)

-- a line that is found stands there, and its number is from low to high
pub record Was (s : List ℕ) (i : ℕ) (key : List ℕ) (low high n k : ℕ) : Type 0 where
  pub stands : Stands s i (line_of key n) k
  pub least : low ≤ n
  pub most : n ≤ high

pub line_was : (s : List ℕ) (i : ℕ) (key : List ℕ) (low high n k : ℕ) → line_at s i key low high ≡ Some (n, k) → Was s i key low high n k
unfolding line_at line_of
line_was s i key low high n k e =
    let a = gate_open (begins key (drop i s)) _ e in
    let z = number_sound 10 low high (i + length key) (drop (i + length key) s) a.1 in
    let split : drop i s ≡ line_of key n ++ z.0 =
    begins_split key (drop i s) a.0 ∙ ap (λ (l : List ℕ). key ++ l) (drop-drop (length key) i s ∙ z.1) ∙ line_split key n z.0 in
    let next : k ≡ i + length (line_of key n) = omega (arith, z.2, ap length z.1, length_line key n, length-append (digits n) (10 ∷ z.0)) in
    record { stands = rw next (stands_of s i (line_of key n) z.0 split); least = z.3; most = z.4 }

-- a line of a number from low to high is found where it stands
pub found_of : (key : List ℕ) (low high n : ℕ) {s : List ℕ} {i k : ℕ} → low ≤ n → n ≤ high → Stands s i (line_of key n) k → line_at s i key low high ≡ Some (n, k)
found_of key low high n {s} {i} {k} a b r = line_found_lem s i key low high n (drop k s) a b r.there ∙ found_at n (sym r.next)

-- ---- a word that was found stands there, or another was found

pub word_was : (s : List ℕ) (i : ℕ) (t : List ℕ) (v : ℕ) (other : Line) {n k : ℕ} → word_at s i t v other ≡ Some (n, k)
    → ((n ≡ v) × Stands s i t k) ⊎ (other ≡ Some (n, k))
unfolding word_at
word_was s i t v other {n} {k} e =
    ⊎_elim
    (λ q.
    let (same, next) = some_pair_parts _ _ _ _ (sym q.1) in
    inl (same, rw next (stands_of s i t (drop (length t) (drop i s)) (begins_split t (drop i s) q.0))))
    (λ q. inr q.1)
    (either_way (begins t (drop i s)) (Some (v, i + length t)) other (Some (n, k)) e)

-- ---- what is read and what is written at a place of s: f reads, t writes, P holds of the numbers that are read

pub record Exact (s : List ℕ) (f : ℕ → Line) (t : ℕ → List ℕ) (P : ℕ → Type 0) : Type 0 where
  pub found : (v i k : ℕ) → P v → Stands s i (t v) k → f i ≡ Some (v, k)
  pub was : (v i k : ℕ) → f i ≡ Some (v, k) → P v × Stands s i (t v) k
  pub some : (v : ℕ) → 0 < length (t v)

pub exact_line : (s key : List ℕ) (low high : ℕ) → Exact s (λ i. line_at s i key low high) (line_of key) (λ v. (low ≤ v) × (v ≤ high))
exact_line s key low high =
    record {
      found = λ v i k h r. found_of key low high v h.0 h.1 r;
      was = λ v i k e. let w = line_was s i key low high v k e in ((w.least, w.most), w.stands);
      some = λ v. omega (arith, length_line key v);
    }

-- a line that is read moves the place, and not past the end
pub exact_moves : {s : List ℕ} {f : ℕ → Line} {t : ℕ → List ℕ} {P : ℕ → Type 0} → Exact s f t P → (v i k : ℕ) → f i ≡ Some (v, k) → (i < k) × (k ≤ length s)
exact_moves {t = t} E v i k e = stands_moves (E.was v i k e).1 (E.some v)
