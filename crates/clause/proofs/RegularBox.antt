-- The regular clauses of one box say that it holds a value and that its thresholds say the same: proved once over its number of values.
use mathlib.Core.Path.{◌≡◌, refl, sym, ap, ap₂, ◌∙◌}
use Prim.Native.Nat.{ℕ, zero, suc, ◌+◌, ◌-◌, ◌≤◌, ◌<◌}
use native.Mathlib.Omega.{arith}
use mathlib.Core.Bool.{Bool, true, false, not, ◌&&◌, ◌||◌, beq, or-false, and-true}
use lib.Dec.{eqb, leb}
use borrow.Author.Tests.{eq-eqb, ne_eqb, le-leb, lt-leb, leb-true}
use Rattle.lists.specs.Lists.{count, all}
use Rattle.lists.proofs.Truth.{and_left, and_right, both, test, clash, order, same, beq_exact}
use Rattle.lists.proofs.Lists.{all_append, all_map, all_flat}
use Rattle.lists.proofs.Runs.{all_at, at_all}
use Rattle.clause.specs.Clause.{Reading, all_true}
use Rattle.clause.specs.Hard.{regular_box, chain_at, lowest, between, highest}
use Rattle.clause.proofs.OneValue.{Holds, Climbs}

-- The links of a value: the three clauses say that x_j is r_j and not r_(j+1), the two of an outer value the same without the missing threshold.

between_says : (ν : Reading) (x r : ℕ → ℕ) (j : ℕ) → all_true ν (between x r j) ≡ beq (ν (x j)) (ν (r j) && not (ν (r (suc j))))
unfolding between
between_says ν x r j = go (ν (x j)) (ν (r j)) (ν (r (suc j)))
  where
    go : (p q s : Bool)
        → ((not p || (q || false)) && ((not p || (not s || false)) && ((p || (not q || (s || false))) && true))) ≡ beq p (q && not s)
    go true true true = refl
    go true true false = refl
    go true false true = refl
    go true false false = refl
    go false true true = refl
    go false true false = refl
    go false false true = refl
    go false false false = refl

lowest_says : (ν : Reading) (x r : ℕ → ℕ) → all_true ν (lowest x r) ≡ beq (ν (x 1)) (not (ν (r 2)))
unfolding lowest
lowest_says ν x r = go (ν (x 1)) (ν (r 2))
  where
    go : (p q : Bool) → ((not p || (not q || false)) && ((p || (q || false)) && true)) ≡ beq p (not q)
    go true true = refl
    go true false = refl
    go false true = refl
    go false false = refl

highest_says : (ν : Reading) (x r : ℕ → ℕ) (m : ℕ) → all_true ν (highest x r m) ≡ beq (ν (x m)) (ν (r m))
unfolding highest
highest_says ν x r m = go (ν (x m)) (ν (r m))
  where
    go : (p q : Bool) → ((not p || (q || false)) && ((p || (not q || false)) && true)) ≡ beq p q
    go true true = refl
    go true false = refl
    go false true = refl
    go false false = refl

-- at least j and not at least j + 1 is j
only_at : (j a : ℕ) → (leb j a && not (leb (suc j) a)) ≡ eqb j a
only_at j a =
    order j a
    (λ h. same j a
    (λ q. rw (le-leb j a h, lt-leb (suc j) a (omega arith), eq-eqb j a q))
    (λ q. rw (le-leb j a h, le-leb (suc j) a (omega arith), ne_eqb j a q)))
    (λ h. rw (lt-leb j a h, ne_eqb j a (λ z. omega arith)))

implies : (p q : Bool) → (not p || (q || false)) ≡ true → p ≡ true → q ≡ true
implies true true e f = refl
implies true false e f = e
implies false true e f = refl
implies false false e f = f

-- a falling row of thresholds stops at some value
climb : (f : ℕ → Bool) (n : ℕ) → ((j : ℕ) → 3 ≤ j → j ≤ suc n → f j ≡ true → f (j - 1) ≡ true)
    → (a : ℕ) × (1 ≤ a) × (a ≤ suc n) × ((j : ℕ) → 2 ≤ j → j ≤ suc n → f j ≡ leb j a)
climb f zero g = (1, omega arith, omega arith, λ j l h. absurd (omega arith))
climb f (suc n) g =
    let (a, l, h, t) = climb f n (λ j p q. g j p (omega arith)) in
    test (f (suc (suc n)))
    (λ e. (
      suc (suc n),
      omega arith,
      omega arith,
      λ j p q.
          order j (suc n)
          (λ u.
          let back : suc n ≡ suc (suc n) - 1 = omega arith in
          let d : f (suc n) ≡ true = ap f back ∙ g (suc (suc n)) (omega arith) (omega arith) e in
          let k : suc n ≤ a = leb-true (suc n) a (sym (t (suc n) (omega arith) (omega arith)) ∙ d) in
          t j p u ∙ le-leb j a (omega arith))
          (λ u. let z : j ≡ suc (suc n) = omega arith in ap f z ∙ e)
          ∙ sym (le-leb j (suc (suc n)) q),
    ))
    (λ e. (
      a,
      l,
      omega arith,
      λ j p q.
          order j (suc n) (λ u. t j p u) (λ u.
          let z : j ≡ suc (suc n) = omega arith in
          ap f z ∙ e ∙ sym (lt-leb j a (omega arith))),
    ))

-- what the clauses of a box with two or more values say, as tests and as facts
module _ (ν : Reading) (x r : ℕ → ℕ) where
  chain_ok : ℕ → Bool
  chain_ok j = not (ν (r j)) || (ν (r (j - 1)) || false)

  mid_ok : ℕ → Bool
  mid_ok j = beq (ν (x j)) (ν (r j) && not (ν (r (suc j))))

  low_ok : Bool
  low_ok = beq (ν (x 1)) (not (ν (r 2)))

  high_ok : ℕ → Bool
  high_ok m = beq (ν (x m)) (ν (r m))

  regular_says : (k : ℕ)
      → all_true ν (regular_box x r (suc (suc k))) ≡ (all chain_ok (count 3 k) && (low_ok && (all mid_ok (count 2 k) && high_ok (suc (suc k)))))
  unfolding regular_box chain_at chain_ok mid_ok low_ok high_ok
  regular_says k = simp (all_append, all_map, all_flat, between_says, lowest_says, highest_says)

record Links (ν : Reading) (x r : ℕ → ℕ) (k : ℕ) : Type 0 where
  chain : (j : ℕ) → 3 ≤ j → j < 3 + k → (not (ν (r j)) || (ν (r (j - 1)) || false)) ≡ true
  low : ν (x 1) ≡ not (ν (r 2))
  mid : (j : ℕ) → 2 ≤ j → j < 2 + k → ν (x j) ≡ (ν (r j) && not (ν (r (suc j))))
  high : ν (x (suc (suc k))) ≡ ν (r (suc (suc k)))

four : (p q s t : Bool) → (p && (q && (s && t))) ≡ true → (p ≡ true) × (q ≡ true) × (s ≡ true) × (t ≡ true)
four p q s t e =
    let f = and_right p (q && (s && t)) e in
    let g = and_right q (s && t) f in
    (and_left p (q && (s && t)) e, and_left q (s && t) f, and_left s t g, and_right s t g)

module _ (ν : Reading) (x r : ℕ → ℕ) where
  links : (k : ℕ) → all_true ν (regular_box x r (suc (suc k))) ≡ true → Links ν x r k
  unfolding chain_ok mid_ok low_ok high_ok
  links k e =
      let (c, l, m, h) =
      four (all (chain_ok ν x r) (count 3 k)) (low_ok ν x r) (all (mid_ok ν x r) (count 2 k)) (high_ok ν x r (suc (suc k))) (sym (regular_says ν x r k) ∙ e) in
      record {
        chain = all_at (chain_ok ν x r) 3 k c;
        low = (beq_exact (ν (x 1)) (not (ν (r 2)))).0 l;
        mid = λ j p q. (beq_exact (ν (x j)) (ν (r j) && not (ν (r (suc j))))).0 (all_at (mid_ok ν x r) 2 k m j p q);
        high = (beq_exact (ν (x (suc (suc k)))) (ν (r (suc (suc k))))).0 h;
      }

  unlinks : (k : ℕ) → Links ν x r k → all_true ν (regular_box x r (suc (suc k))) ≡ true
  unfolding chain_ok mid_ok low_ok high_ok
  unlinks k L =
      regular_says ν x r k
      ∙ both (at_all (chain_ok ν x r) 3 k L.chain)
      (both ((beq_exact (ν (x 1)) (not (ν (r 2)))).1 L.low)
      (both (at_all (mid_ok ν x r) 2 k (λ j l h. (beq_exact (ν (x j)) (ν (r j) && not (ν (r (suc j))))).1 (L.mid j l h)))
      ((beq_exact (ν (x (suc (suc k)))) (ν (r (suc (suc k))))).1 L.high)))

  pub regular_holds : (m : ℕ) → all_true ν (regular_box x r m) ≡ true → (a : ℕ) × Holds ν x m a × Climbs ν r m a
  unfolding regular_box
  regular_holds zero e = clash e refl
  regular_holds (suc zero) e = (
    1,
    record {
      low = omega arith;
      high = omega arith;
      at = λ j l h.
          let z : j ≡ 1 = omega arith in
          ap (λ (i : ℕ). ν (x i)) z ∙ sym (or-false (ν (x 1))) ∙ and_left (ν (x 1) || false) true e ∙ sym (eq-eqb j 1 z);
    },
    λ j l h. absurd (omega arith),
  )
  regular_holds (suc (suc k)) e =
      let top = suc (suc k) in
      let L : Links ν x r k = links k e in
      let (a, l, h, t) = climb (λ j. ν (r j)) (suc k) (λ j p q. implies (ν (r j)) (ν (r (j - 1))) (L.chain j p (omega arith))) in
      let here : (j : ℕ) → 1 ≤ j → j ≤ top → ν (x j) ≡ (leb j a && not (leb (suc j) a)) = λ j p q.
      same j 1
      (λ z. rw (z, L.low, t 2 (omega arith) (omega arith), le-leb 1 a l))
      (λ z. same j top
      (λ y. rw (y, L.high, t top (omega arith) (omega arith), lt-leb (suc top) a (omega arith)) (sym (and-true (leb top a))))
      (λ y. L.mid j (omega arith) (omega arith)
      ∙ ap₂ (λ (p q : Bool). p && not q) (t j (omega arith) (omega arith)) (t (suc j) (omega arith) (omega arith)))) in
      (a, record { low = l; high = h; at = λ j p q. here j p q ∙ only_at j a }, t)

  pub holds_regular : (m a : ℕ) → Holds ν x m a → Climbs ν r m a → all_true ν (regular_box x r m) ≡ true
  unfolding regular_box
  holds_regular zero a H C = absurd (omega (arith, H.low, H.high))
  holds_regular (suc zero) a H C = rw (H.at 1 (omega arith) (omega arith), eq-eqb 1 a (omega (arith, H.low, H.high)))
  holds_regular (suc (suc k)) a H C =
      let top = suc (suc k) in
      let l : 1 ≤ a = H.low in
      let h : a ≤ top = H.high in
      let here : (j : ℕ) (p q : Bool) → 1 ≤ j → j ≤ top → leb j a ≡ p → leb (suc j) a ≡ q → ν (x j) ≡ (p && not q)
      = λ j p q u v e f. H.at j u v ∙ sym (only_at j a) ∙ ap₂ (λ (p q : Bool). p && not q) e f in
      unlinks k (record {
        chain = λ j p q.
            order j a
            (λ u. rw (C j (omega arith) (omega arith), C (j - 1) (omega arith) (omega arith), le-leb j a u, le-leb (j - 1) a (omega arith)))
            (λ u. rw (C j (omega arith) (omega arith), lt-leb j a u));
        low = here 1 true (ν (r 2)) (omega arith) (omega arith) (le-leb 1 a l) (sym (C 2 (omega arith) (omega arith)));
        mid = λ j p q.
            here j (ν (r j)) (ν (r (suc j))) (omega arith) (omega arith) (sym (C j (omega arith) (omega arith))) (sym
            (C (suc j) (omega arith) (omega arith)));
        high = here top (ν (r top)) false (omega arith) (omega arith) (sym (C top (omega arith) (omega arith))) (lt-leb (suc top) a (omega arith))
            ∙ and-true (ν (r top));
      })
