-- The turns of the loops over a text, and each way that a list line is judged.
use Prim.Native.Nat.{ℕ, suc, ◌+◌, ◌-◌, ◌≤◌, ◌<◌}
use native.Mathlib.Numerals.{add-one}
use native.Mathlib.Omega.{arith}
use mathlib.Core.Bool.{Bool, true, false, cond, ◌&&◌}
use mathlib.Core.Path.{◌≡◌, refl, sym, ◌∙◌}
use mathlib.Core.List.{List, [], ◌∷◌}
use lib.ListN.{length, get_or, drop, drop_of_length-le, length-drop}
use lib.Seq.{drop-cons, drop-drop}
use lib.Dec.{eqb, leb}
use borrow.Author.Tests.{le-leb, lt-leb, leb-true}
use Rattle.lists.proofs.Truth.{test}
use Rattle.scan.specs.Stands.{begins}
use Rattle.scan.proofs.Places.{begins_long}
use Rattle.list_scan.specs.declared.ListLine.TheVariants.{Entries, Bad, More}
use Rattle.list_scan.specs.ListLines.{list_key, bit_count_lem, entries_found, line_found, line_start_lem}

-- ---- at index i of s
module _ (s : List ℕ) (i : ℕ) where
  pub count_none : length s ≤ i → bit_count_lem (drop i s) ≡ 0
  unfolding bit_count_lem
  count_none h = rw (drop_of_length-le s {i = i} h)

  pub start_none : (l : ℕ) → length s ≤ i → line_start_lem l (drop i s) ≡ 0
  unfolding line_start_lem
  start_none l h = rw (drop_of_length-le s {i = i} h)

  module _ (h : i < length s) where
    pub count_low : get_or s i 0 < 48 → bit_count_lem (drop i s) ≡ 0
    unfolding bit_count_lem
    count_low k = rw (drop-cons s i 0 h) (simp (lt-leb 48 (get_or s i 0) k))

    pub count_high : 49 < get_or s i 0 → bit_count_lem (drop i s) ≡ 0
    unfolding bit_count_lem
    count_high k = rw (drop-cons s i 0 h) (simp (le-leb 48 (get_or s i 0) (omega arith), lt-leb (get_or s i 0) 49 k))

    pub count_step : 48 ≤ get_or s i 0 → get_or s i 0 ≤ 49 → bit_count_lem (drop i s) ≡ suc (bit_count_lem (drop (i + 1) s))
    unfolding bit_count_lem
    count_step k m = rw (drop-cons s i 0 h) (simp (le-leb 48 (get_or s i 0) k, le-leb (get_or s i 0) 49 m, add-one))

    pub start_step : (l : ℕ) → 1 < l → line_start_lem l (drop i s) ≡ suc (line_start_lem (cond (eqb (get_or s i 0) 10) (l - 1) l) (drop (i + 1) s))
    unfolding line_start_lem
    start_step l k = rw (drop-cons s i 0 h) (simp (lt-leb l 1 k, add-one))

pub start_here : (l : ℕ) (s : List ℕ) → l ≤ 1 → line_start_lem l s ≡ 0
unfolding line_start_lem
start_here l [] h = refl
start_here l (c ∷ s) h = simp (le-leb l 1 h)

cond_most : (b : Bool) {m n k : ℕ} → m ≤ k → n ≤ k → cond b m n ≤ k
cond_most true h g = h
cond_most false h g = g

pub start_most : (l : ℕ) (s : List ℕ) → line_start_lem l s ≤ length s
unfolding line_start_lem
start_most l [] = omega arith
start_most l (c ∷ s) = cond_most (leb l 1) (omega arith) (omega (arith, start_most (cond (eqb c 10) (l - 1) l) s))

count_most : (l : List ℕ) → bit_count_lem l ≤ length l
unfolding bit_count_lem
count_most [] = omega arith
count_most (c ∷ l) = cond_most (leb 48 c && leb c 49) (omega (arith, count_most l)) (omega arith)

pub count_ends : (i : ℕ) (s : List ℕ) → bit_count_lem (drop i s) ≤ length s - i
count_ends i s = omega (arith, count_most (drop i s), length-drop i s)

-- ---- what stands at index i of s, judged

module _ (s : List ℕ) (i : ℕ) where
  pub line_bad : begins list_key (drop i s) ≡ false → line_found (drop i s) ≡ Bad
  unfolding line_found
  line_bad e = rw e

  module _ (e : begins list_key (drop i s) ≡ true) (m : ℕ) (n : m ≡ bit_count_lem (drop (i + 5) s)) where
    past_key : line_found (drop i s) ≡ entries_found (drop (i + 5) s)
    unfolding line_found
    past_key = rw (e, drop-drop 5 i s)

    pub line_open : begins (10 ∷ []) (drop (i + 5 + m) s) ≡ false → line_found (drop i s) ≡ Bad
    unfolding entries_found
    line_open f = past_key ∙ rw (← n, drop-drop m (i + 5) s, f)

    module _ (f : begins (10 ∷ []) (drop (i + 5 + m) s) ≡ true) where
      pub line_more : i + 5 + m + 1 < length s → line_found (drop i s) ≡ More
      unfolding entries_found
      line_more h =
          let far : leb (length (drop (i + 5) s)) (m + 1) ≡ false = lt-leb (length (drop (i + 5) s)) (m + 1) (omega (arith, length-drop (i + 5) s)) in
          past_key ∙ rw (← n, drop-drop m (i + 5) s, f, far)

      pub line_last : length s ≤ i + 5 + m + 1 → line_found (drop i s) ≡ Entries m
      unfolding entries_found
      line_last h =
          let near : leb (length (drop (i + 5) s)) (m + 1) ≡ true = le-leb (length (drop (i + 5) s)) (m + 1) (omega (arith, length-drop (i + 5) s)) in
          past_key ∙ rw (← n, drop-drop m (i + 5) s, f, near)

-- ---- a list line that was found

pub record EntriesWere (r : List ℕ) (m : ℕ) : Type 0 where
  pub key : begins list_key r ≡ true
  pub count : m ≡ bit_count_lem (drop 5 r)
  pub feed : begins (10 ∷ []) (drop m (drop 5 r)) ≡ true
  pub all : length (drop 5 r) ≤ m + 1

bad_never : {X : Type 0} {m : ℕ} → Bad ≡ Entries m → X
bad_never e = absurd (let o : ◌≡◌ {A = ℕ} 0 1 = cc in omega arith)

pub entries_were : (r : List ℕ) (m : ℕ) → line_found r ≡ Entries m → EntriesWere r m
unfolding line_found entries_found
entries_were r m e =
    let n = bit_count_lem (drop 5 r) in
    test (begins list_key r)
    (λ k.
    test (begins (10 ∷ []) (drop n (drop 5 r)))
    (λ f.
    test (leb (length (drop 5 r)) (n + 1))
    (λ a.
    let same : n ≡ m = cc (rw (k, f, a) at e) in
    record { key = k; count = sym same; feed = rw same at f; all = omega (arith, leb-true (length (drop 5 r)) (n + 1) a) })
    (λ a. absurd (let o : ◌≡◌ {A = ℕ} 0 1 = cc (rw (k, f, a) at e) in omega arith)))
    (λ f. bad_never (rw (k, f) at e)))
    (λ k. bad_never (rw k at e))

pub entries_inside : (s : List ℕ) (i m : ℕ) → line_found (drop i s) ≡ Entries m → i + 5 + m + 1 ≤ length s
entries_inside s i m e =
    let W = entries_were (drop i s) m e in
    let key = begins_long list_key s i W.key in
    let feed = begins_long (10 ∷ []) s (i + 5 + m) (rw (drop-drop 5 i s, drop-drop m (i + 5) s) at W.feed) in
    omega arith
