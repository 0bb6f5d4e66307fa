-- What is wrong with a word follows from its index: `wrong ws i` is a refusal exactly where a row of document 01 is broken at i, and then that row's.
use mathlib.Core.Path.{◌≡◌, refl, subst, ◌∙◌}
use mathlib.Core.Logic.{◌⊎◌, inl, inr}
use mathlib.Core.Bool.{Bool, true, false, not, cond}
use mathlib.Core.Option.{Option, none, some}
use mathlib.Core.List.{List}
use Prim.Native.Nat.{ℕ, zero, suc, ◌+◌, ◌-◌, ◌^◌, ◌≤◌, ◌<◌}
use native.Mathlib.Nat.{add-zero}
use native.Mathlib.Omega.{arith}
use lib.ListN.{length, get_or}
use lib.Dec.{ltb, leb, eqb}
use borrow.Author.Tests.{lt-ltb, le-ltb, le-leb, lt-leb, eqb-true, eqb-false, not-true, not-false}
use Rattle.lists.specs.Firsts.{◌then◌, unless}
use Rattle.lists.proofs.Truth.{order}
use Rattle.lists.proofs.Bits.{pow_small, pow_large}
use Rattle.refusal.specs.declared.Refusal.{Refusal}
use Rattle.refusal.specs.declared.Refusal.TheVariants.{Missing, Extra, Count, Domain, Partner, Weight, Mask}
use Rattle.refusal.specs.Refusals.{number_of, place_of}
use Rattle.table.specs.Words.{box_count, pair_count, size_at, pair_next, pairs_end, range_fault, mask_fault, size_fault}
use Rattle.table.specs.Faults.{starts, pair_length, Due, count_due, size_due, pair_due, Outside, Fault, missing, extra}
use Rattle.table.specs.Faults.{boxes_out, pairs_out, size_out, first_out, second_out, weight_out, mask_out}

-- ---- what is wrong with the word at an index

-- among the two counts and the sizes
abbrev head_wrong : List ℕ → ℕ → Option Refusal
head_wrong ws zero = range_fault ws 0 1 64 (Count 0)
head_wrong ws (suc zero) = range_fault ws 1 0 256 (Count 1)
head_wrong ws (suc (suc i)) = size_fault ws (suc (suc i))

-- the second box of the pair at `at`
abbrev second_fault : List ℕ → ℕ → Option Refusal
second_fault ws at =
    range_fault ws (at + 1) 1 (box_count ws) (Partner (at + 1))
    then unless (not (eqb (get_or ws (at + 1) 0) (get_or ws at 0))) (Partner (at + 1))

-- j words into the pair at `at`
abbrev pub pair_wrong : List ℕ → ℕ → ℕ → Option Refusal
pair_wrong ws at zero = range_fault ws at 1 (box_count ws) (Partner at)
pair_wrong ws at (suc zero) = second_fault ws at
pair_wrong ws at (suc (suc zero)) = range_fault ws (at + 2) 1 1000000 (Weight (at + 2))
pair_wrong ws at (suc (suc (suc j))) = mask_fault ws (size_at ws (get_or ws (at + 1) 0)) (at + 3 + j)

-- f says of each word of the pair at `at` what is wrong with it
abbrev pub Tells : List ℕ → (ℕ → Option Refusal) → ℕ → Type 0
Tells ws f at = (j i : ℕ) → j < pair_length ws at → i ≡ at + j → f i ≡ pair_wrong ws at j

-- among the k pairs from `at` on, and past them
tail_wrong : List ℕ → ℕ → ℕ → ℕ → Option Refusal
tail_wrong ws zero at i = unless (leb (length ws) i) (Extra i)
tail_wrong ws (suc k) at i = cond (ltb i (pair_next ws at)) (pair_wrong ws at (i - at)) (tail_wrong ws k (pair_next ws at) i)

-- among all words
pub wrong : List ℕ → ℕ → Option Refusal
wrong ws i = cond (ltb i (box_count ws + 2)) (head_wrong ws i) (tail_wrong ws (pair_count ws) (box_count ws + 2) i)

-- ---- the tests of a word

-- What a test of the word at i answers: Bad is what may not be, and `out` its refusal.
data Verdict (ws : List ℕ) (i : ℕ) (Bad : Type 0) (out : Refusal) : Option Refusal → Type 0 where
  lacks : length ws ≤ i → Verdict ws i Bad out (some (Missing i))
  breaks : i < length ws → Bad → Verdict ws i Bad out (some out)
  fits : i < length ws → (Bad → ⊥) → Verdict ws i Bad out none

-- that of the word at i this is asked, and nothing else
abbrev Asked : List ℕ → ℕ → Type 0 → Refusal → Type 0
Asked ws i Bad out = Verdict ws i Bad out (wrong ws i)

inside : (low high w : ℕ) → low ≤ w → w ≤ high → Outside low high w → ⊥
inside low high w l u (inl h) = omega arith
inside low high w l u (inr h) = omega arith

range_test : (ws : List ℕ) (i low high : ℕ) (out : Refusal) → Verdict ws i (Outside low high (get_or ws i 0)) out (range_fault ws i low high out)
unfolding range_fault
range_test ws i low high out =
    let w = get_or ws i 0 in
    order (length ws) i (λ h. rw (le-ltb i (length ws) h) (lacks h))
    (λ h. order low w
    (λ l. order w high
    (λ u. rw (lt-ltb i (length ws) h, le-leb low w l, le-leb w high u) (fits h (inside low high w l u)))
    (λ u. rw (lt-ltb i (length ws) h, le-leb low w l, lt-leb w high u) (breaks h (inr u))))
    (λ l. rw (lt-ltb i (length ws) h, lt-leb low w l) (breaks h (inl l))))

mask_test : (ws : List ℕ) (m i : ℕ) → Verdict ws i (2 ^ m ≤ get_or ws i 0) (Mask i) (mask_fault ws m i)
unfolding mask_fault
mask_test ws m i =
    let w = get_or ws i 0 in
    order (length ws) i (λ h. rw (le-ltb i (length ws) h) (lacks h))
    (λ h. order (2 ^ m) w
    (λ l. rw (lt-ltb i (length ws) h, pow_large w m l) (breaks h l))
    (λ l. rw (lt-ltb i (length ws) h, pow_small w m l) (fits h (λ b. omega arith))))

-- what is said of the word at i is a fault there
abbrev pub Right : List ℕ → ℕ → Option Refusal → Type 0
Right ws i none = Unit {0}
Right ws i (some r) = Fault ws (number_of r) i × (place_of r ≡ i)

-- what is said of a word due: it is missed if it is not there, and nothing is said wrongly
record Said (ws : List ℕ) (i : ℕ) (o : Option Refusal) : Type 0 where
  absent : length ws ≤ i → o ≡ some (Missing i)
  right : Due ws i → Right ws i o

module _ {ws : List ℕ} {i : ℕ} {Bad : Type 0} {out : Refusal} where
  -- one test more of the same word
  more : {Worse : Type 0} {o : Option Refusal} (b : Bool) → (b ≡ true → Worse → ⊥) → (b ≡ false → Worse) → Verdict ws i Bad out o
      → Verdict ws i (Bad ⊎ Worse) out (o then unless b out)
  more b f g (lacks h) = lacks h
  more b f g (breaks h c) = breaks h (inl c)
  more true f g (fits h n) = fits h (elim [ inl c ↦ n c | inr d ↦ f refl d ])
  more false f g (fits h n) = breaks h (inr (g refl))

  bad : {o : Option Refusal} → Verdict ws i Bad out o → i < length ws → Bad → o ≡ some out
  bad (lacks h) u b = absurd (omega arith)
  bad (breaks h c) u b = refl
  bad (fits h n) u b = absurd (n b)

  said : {o : Option Refusal} → Verdict ws i Bad out o → (i < length ws → Bad → Fault ws (number_of out) i) → place_of out ≡ i → Said ws i o
  said (lacks h) f p = record { absent = λ u. refl; right = λ d. (missing i d h, refl) }
  said (breaks h b) f p = record { absent = λ u. absurd (omega arith); right = λ d. (f h b, p) }
  said (fits h n) f p = record { absent = λ u. absurd (omega arith); right = λ d. tt }

module _ (ws : List ℕ) where
  -- ---- the words by their indices

  pub next_is : (at : ℕ) → pair_next ws at ≡ at + pair_length ws at
  unfolding pair_next
  next_is at = omega arith

  -- the pairs go up
  end_up : (k at : ℕ) → at ≤ pairs_end ws k at
  unfolding pairs_end
  end_up zero at = omega arith
  end_up (suc k) at = omega (arith, next_is at, end_up k (pair_next ws at))

  pub head_at : (i : ℕ) → i < box_count ws + 2 → wrong ws i ≡ head_wrong ws i
  unfolding wrong
  head_at i h = rw (lt-ltb i (box_count ws + 2) h)

  pub size_at_lem : (i : ℕ) → 2 ≤ i → i < box_count ws + 2 → wrong ws i ≡ size_fault ws i
  size_at_lem zero l h = absurd (omega arith)
  size_at_lem (suc zero) l h = absurd (omega arith)
  size_at_lem (suc (suc i)) l h = head_at (suc (suc i)) h

  tail_at : (i : ℕ) → box_count ws + 2 ≤ i → wrong ws i ≡ tail_wrong ws (pair_count ws) (box_count ws + 2) i
  unfolding wrong
  tail_at i h = rw (le-ltb i (box_count ws + 2) h)

  pair_in : (k p at : ℕ) → k < p → Tells ws (tail_wrong ws p at) (pairs_end ws k at)
  unfolding tail_wrong pairs_end
  pair_in k zero at h j i u e = absurd (omega arith)
  pair_in zero (suc p) at h j i u e =
      let z : i - at ≡ j = omega arith in
      rw (lt-ltb i (pair_next ws at) (omega (arith, next_is at)), z)
  pair_in (suc k) (suc p) at h j i u e =
      rw (le-ltb i (pair_next ws at) (omega (arith, end_up k (pair_next ws at)))) (pair_in k p (pair_next ws at) (omega arith) j i u e)

  pub pair_at_lem : (k : ℕ) → k < pair_count ws → Tells ws (wrong ws) (starts ws k)
  pair_at_lem k h j i u e = tail_at i (omega (arith, end_up k (box_count ws + 2))) ∙ pair_in k (pair_count ws) (box_count ws + 2) h j i u e

  past_in : (p at i : ℕ) → pairs_end ws p at ≤ i → tail_wrong ws p at i ≡ unless (leb (length ws) i) (Extra i)
  unfolding tail_wrong pairs_end
  past_in zero at i h = refl
  past_in (suc p) at i h =
      rw (le-ltb i (pair_next ws at) (omega (arith, end_up p (pair_next ws at)))) (past_in p (pair_next ws at) i h)

  past_at : (i : ℕ) → starts ws (pair_count ws) ≤ i → wrong ws i ≡ unless (leb (length ws) i) (Extra i)
  past_at i h =
      tail_at i (omega (arith, end_up (pair_count ws) (box_count ws + 2))) ∙ past_in (pair_count ws) (box_count ws + 2) i h

  -- past the last word due, what is there is extra
  pub extra_at : (i : ℕ) → starts ws (pair_count ws) ≤ i → i < length ws → wrong ws i ≡ some (Extra i)
  extra_at i h u = past_at i h ∙ rw (lt-leb (length ws) i u)

  pub end_at : (i : ℕ) → starts ws (pair_count ws) ≤ i → length ws ≤ i → wrong ws i ≡ none
  end_at i h u = past_at i h ∙ rw (le-leb (length ws) i u)

  -- ---- what is asked of each word due

  boxes_asked : Asked ws 0 (Outside 1 64 (box_count ws)) (Count 0)
  boxes_asked = rw (head_at 0 (omega arith)) (range_test ws 0 1 64 (Count 0))

  pairs_asked : Asked ws 1 (Outside 0 256 (pair_count ws)) (Count 1)
  pairs_asked = rw (head_at 1 (omega arith)) (range_test ws 1 0 256 (Count 1))

  size_asked : (b : ℕ) → 1 ≤ b → b ≤ box_count ws → Asked ws (b + 1) (Outside 1 16 (size_at ws b)) (Domain (b + 1))
  size_asked b l h = rw (size_at_lem (b + 1) (omega arith) (omega arith)) (range_test ws (b + 1) 1 16 (Domain (b + 1)))

  module _ (k : ℕ) (h : k < pair_count ws) where
    first_asked : Asked ws (starts ws k) (Outside 1 (box_count ws) (get_or ws (starts ws k) 0)) (Partner (starts ws k))
    first_asked =
        let at = starts ws k in
        rw (pair_at_lem k h 0 at (omega arith) (omega arith)) (range_test ws at 1 (box_count ws) (Partner at))

    second_asked : Asked ws (starts ws k + 1)
        (Outside 1 (box_count ws) (get_or ws (starts ws k + 1) 0) ⊎ (get_or ws (starts ws k + 1) 0 ≡ get_or ws (starts ws k) 0)) (Partner (starts ws k + 1))
    second_asked =
        let at = starts ws k in
        let x = get_or ws at 0 in
        let y = get_or ws (at + 1) 0 in
        rw (pair_at_lem k h 1 (at + 1) (omega arith) refl)
        (more (not (eqb y x)) (λ e. eqb-false y x (not-true (eqb y x) e)) (λ e. eqb-true y x (not-false (eqb y x) e))
        (range_test ws (at + 1) 1 (box_count ws) (Partner (at + 1))))

    weight_asked : Asked ws (starts ws k + 2) (Outside 1 1000000 (get_or ws (starts ws k + 2) 0)) (Weight (starts ws k + 2))
    weight_asked =
        let at = starts ws k in
        rw (pair_at_lem k h 2 (at + 2) (omega arith) refl) (range_test ws (at + 2) 1 1000000 (Weight (at + 2)))

    mask_asked : (j : ℕ) → j < size_at ws (get_or ws (starts ws k) 0) → let i = starts ws k + 3 + j in
        Asked ws i (2 ^ size_at ws (get_or ws (starts ws k + 1) 0) ≤ get_or ws i 0) (Mask i)
    mask_asked j u =
        let at = starts ws k in
        rw (pair_at_lem k h (suc (suc (suc j))) (at + 3 + j) (omega arith) (omega arith)) (mask_test ws (size_at ws (get_or ws (at + 1) 0)) (at + 3 + j))

  -- ---- what is wrong, and the rows

  due_said : {i : ℕ} → Due ws i → Said ws i (wrong ws i)
  due_said (count_due zero h) = said boxes_asked boxes_out refl
  due_said (count_due (suc zero) h) = said pairs_asked pairs_out refl
  due_said (count_due (suc (suc i)) h) = absurd (omega arith)
  due_said (size_due b l h) = said (size_asked b l h) (size_out b l h) refl
  due_said (pair_due k zero h u) = rw add-zero (said (first_asked k h) (first_out k h) refl)
  due_said (pair_due k (suc zero) h u) = said (second_asked k h) (second_out k h) refl
  due_said (pair_due k (suc (suc zero)) h u) = said (weight_asked k h) (weight_out k h) refl
  due_said (pair_due k (suc (suc (suc j))) h u) =
      let z : starts ws k + suc (suc (suc j)) ≡ starts ws k + 3 + j = omega arith in
      rw z (said (mask_asked k h j (omega arith)) (mask_out k j h (omega arith)) refl)

  -- where a row is broken, its refusal is what is wrong
  pub fault_wrong : {number i : ℕ} → Fault ws number i → (r : Refusal) × (wrong ws i ≡ some r) × (number_of r ≡ number)
  fault_wrong (missing i d h) = (Missing i, (due_said d).absent h, refl)
  fault_wrong (extra i l h) = (Extra i, extra_at i l h, refl)
  fault_wrong (boxes_out h b) = (Count 0, bad boxes_asked h b, refl)
  fault_wrong (pairs_out h b) = (Count 1, bad pairs_asked h b, refl)
  fault_wrong (size_out b l u h c) = (Domain (b + 1), bad (size_asked b l u) h c, refl)
  fault_wrong (first_out k l h b) = (Partner (starts ws k), bad (first_asked k l) h b, refl)
  fault_wrong (second_out k l h b) = (Partner (starts ws k + 1), bad (second_asked k l) h b, refl)
  fault_wrong (weight_out k l h b) = (Weight (starts ws k + 2), bad (weight_asked k l) h b, refl)
  fault_wrong (mask_out k j l u h b) = (Mask (starts ws k + 3 + j), bad (mask_asked k l j u) h b, refl)

  head_due : (i : ℕ) → i < box_count ws + 2 → Due ws i
  head_due i h =
      let z : 2 ≤ i → i - 1 + 1 ≡ i = omega arith in
      order 2 i (λ l. subst (Due ws) (z l) (size_due (i - 1) (omega arith) (omega arith))) (λ l. count_due i l)

  -- a word from `at` on is in one of the p pairs there, or past them
  pair_of : (p at i : ℕ) → at ≤ i
      → ((k : ℕ) × (j : ℕ) × (k < p) × (j < pair_length ws (pairs_end ws k at)) × (pairs_end ws k at + j ≡ i)) ⊎ (pairs_end ws p at ≤ i)
  unfolding pairs_end
  pair_of zero at i h = inr h
  pair_of (suc p) at i h =
      order (pair_next ws at) i
      (λ u. elim (pair_of p (pair_next ws at) i u) [ inl (k, j, l, v, e) ↦ inl (suc k, j, omega arith, v, e) | inr v ↦ inr v ])
      (λ u. inl (0, i - at, omega arith, omega (arith, next_is at), omega arith))

  dues : (i : ℕ) → Due ws i ⊎ (starts ws (pair_count ws) ≤ i)
  dues i =
      order (box_count ws + 2) i
      (λ h. elim (pair_of (pair_count ws) (box_count ws + 2) i h) [ inl (k, j, l, v, e) ↦ inl (subst (Due ws) e (pair_due k j l v)) | inr v ↦ inr v ])
      (λ h. inl (head_due i h))

  past_right : (i : ℕ) → starts ws (pair_count ws) ≤ i → Right ws i (wrong ws i)
  past_right i h = order (length ws) i (λ u. rw (end_at i h u) tt) (λ u. rw (extra_at i h u) (extra i h u, refl))

  -- what is wrong is a row broken there
  pub wrong_right : (i : ℕ) → Right ws i (wrong ws i)
  wrong_right i = elim (dues i) [ inl d ↦ (due_said d).right d | inr h ↦ past_right i h ]
