-- Reading left to right finds what is wrong at the first word where something is: so `judged` refuses by the row first met, and accepts where none is broken.
use mathlib.Core.Path.{◌≡◌, refl, subst}
use mathlib.Core.Option.{Option, none, some}
use mathlib.Core.List.{List}
use Prim.Native.Nat.{ℕ, zero, suc, ◌+◌, ◌-◌, ◌<◌}
use native.Mathlib.Omega.{arith}
use lib.ListN.{length, get_or}
use lib.Dec.{leb}
use borrow.Author.Tests.{le-leb, lt-leb}
use Rattle.lists.specs.Firsts.{unless, first_of}
use Rattle.lists.proofs.Truth.{order}
use Rattle.lists.proofs.Foremost.{Clear, First, nothing, something, first_then, first_one, first_run}
use Rattle.refusal.specs.declared.Refusal.{Refusal}
use Rattle.refusal.specs.declared.Refusal.TheVariants.{Extra}
use Rattle.refusal.specs.Refusals.{number_of, place_of}
use Rattle.table.specs.Table.{Table}
use Rattle.table.specs.Words.{box_count, pair_count, size_at, pair_next, pairs_end, table_of, refused, accepted, settled, judged}
use Rattle.table.specs.Words.{masks_fault, partners_fault, pair_fault, pairs_fault, body_fault, first_fault_lem}
use Rattle.table.specs.Faults.{starts, Fault, Faultless, FirstMet}
use Rattle.table.proofs.Words.{refused_fault, accepted_fine}
use Rattle.table.proofs.Asked.{wrong, Tells, next_is, head_at, size_at_lem, pair_at_lem, extra_at, end_at, Right, fault_wrong, wrong_right}

-- ---- reading finds what is wrong first

module _ (ws : List ℕ) where
  -- in a pair and in k pairs, by any f that tells of their words
  module _ {f : ℕ → Option Refusal} where
    masks_first : (at : ℕ) → Tells ws f at
        → First f (at + 3) (pair_next ws at) (masks_fault ws (size_at ws (get_or ws (at + 1) 0)) (size_at ws (get_or ws at 0)) (at + 3))
    masks_first at e =
        let n = next_is ws at in
        first_run (size_at ws (get_or ws at 0)) (at + 3) (omega arith)
        (λ i l h. let z : at + 3 + (i - (at + 3)) ≡ i = omega arith in rw z at (e (suc (suc (suc (i - (at + 3))))) i (omega arith) (omega arith)))

    pair_first : (at : ℕ) → Tells ws f at → First f at (pair_next ws at) (pair_fault ws (box_count ws) at)
    unfolding pair_fault partners_fault
    pair_first at e =
        first_then
        (first_then (first_one _ refl (e 0 at (omega arith) (omega arith))) (first_one _ (omega arith) (e 1 (at + 1) (omega arith) refl)))
        (first_then (first_one _ (omega arith) (e 2 (at + 2) (omega arith) refl)) (masks_first at e))

    pairs_first : (k at : ℕ) → ((l : ℕ) → l < k → Tells ws f (pairs_end ws l at))
        → First f at (pairs_end ws k at) (pairs_fault ws (box_count ws) k at)
    unfolding pairs_end first_of
    pairs_first zero at e = nothing (λ i l h. absurd (omega arith))
    pairs_first (suc k) at e =
        first_then (pair_first at (e 0 (omega arith))) (pairs_first k (pair_next ws at) (λ l u. e (suc l) (omega arith)))

  -- past the last word due all words that are there are extra
  past_first : (c : ℕ) → let end = starts ws (pair_count ws) in First (wrong ws) end c (unless (leb (length ws) end) (Extra end))
  past_first c =
      let end = starts ws (pair_count ws) in
      order (length ws) end
      (λ h. rw (le-leb (length ws) end h) (nothing (λ i l u. end_at ws i l (omega arith))))
      (λ h. rw (lt-leb (length ws) end h) (something end (extra_at ws end (omega arith) h) (λ i l u. absurd (omega arith))))

  -- the whole, however far one looks
  fault_first : (c : ℕ) → First (wrong ws) 0 c (first_fault_lem ws)
  unfolding first_fault_lem body_fault
  fault_first c =
      first_then (first_one _ refl (head_at ws 0 (omega arith)))
      (first_then (first_one _ refl (head_at ws 1 (omega arith)))
      (first_then (first_run (box_count ws) 2 (omega arith) (size_at_lem ws))
      (first_then (pairs_first (pair_count ws) (box_count ws + 2) (pair_at_lem ws)) (past_first c))))

  -- ---- what that says of the rows

  faultless : {number i : ℕ} → wrong ws i ≡ none → Fault ws number i → ⊥
  faultless e F = let (r, d, n) = fault_wrong ws F in let z : ◌≡◌ {A = ℕ} 0 1 = cc in omega arith

  -- no two rows are broken at one word
  pub one_number : {k l i : ℕ} → Fault ws k i → Fault ws l i → k ≡ l
  one_number F G = let (r, d, m) = fault_wrong ws F in let (s, e, n) = fault_wrong ws G in cc

  -- and only one fault is met first
  pub one_first : {k l i j : ℕ} → FirstMet ws k i → FirstMet ws l j → (k ≡ l) × (i ≡ j)
  one_first {k} {l} {i} {j} M N =
      order i j
      (λ u. order j i
      (λ v. let z : i ≡ j = omega arith in (one_number M.there (rw z N.there), z))
      (λ v. absurd (N.before k i v M.there)))
      (λ u. absurd (M.before l j u N.there))

  -- what the first fault says: a refusal is the fault first met, and none that there is no fault
  abbrev Judges : Option Refusal → Type 0
  Judges none = Faultless ws
  Judges (some f) = FirstMet ws (number_of f) (place_of f)

  clear : {a b : ℕ} → First (wrong ws) a b none → Clear (wrong ws) a b
  clear (nothing p) = p

  met : {f : Refusal} {b : ℕ} → First (wrong ws) 0 b (some f) → FirstMet ws (number_of f) (place_of f)
  met (something i e p) =
      let (there, z) = subst (Right ws i) e (wrong_right ws i) in
      rw z (record { there = there; before = λ k j h. faultless (p j (omega arith) h) })

  judges : Judges (first_fault_lem ws)
  judges = go (first_fault_lem ws) fault_first
    where
      go : (o : Option Refusal) → ((c : ℕ) → First (wrong ws) 0 c o) → Judges o
      go none w = λ number i. faultless (clear (w (i + 1)) i (omega arith) (omega arith))
      go (some f) w = met (w 0)

-- ---- the judgement

-- words are refused with a number and a place exactly if the fault of that row at that place is the first met
pub refused_first : (ws : List ℕ) (f : Refusal) → judged ws ≡ refused f → FirstMet ws (number_of f) (place_of f)
refused_first ws f e = subst (Judges ws) (refused_fault ws f e) (judges ws)

pub first_refused : (ws : List ℕ) (number place : ℕ) → FirstMet ws number place
    → (f : Refusal) × (judged ws ≡ refused f) × (number_of f ≡ number) × (place_of f ≡ place)
unfolding judged
first_refused ws number place M = go (first_fault_lem ws) (judges ws)
  where
    go : (o : Option Refusal) → Judges ws o → (f : Refusal) × (settled o (table_of ws) ≡ refused f) × (number_of f ≡ number) × (place_of f ≡ place)
    go none n = absurd (n number place M.there)
    go (some f) N = let (z, y) = one_first ws N M in (f, refl, z, y)

-- and accepted exactly if there is no fault
pub accepted_faultless : (ws : List ℕ) (t : Table) → judged ws ≡ accepted t → Faultless ws
accepted_faultless ws t e = subst (Judges ws) (accepted_fine ws t e).0 (judges ws)

pub faultless_accepted : (ws : List ℕ) → Faultless ws → judged ws ≡ accepted (table_of ws)
unfolding judged
faultless_accepted ws n = go (first_fault_lem ws) (judges ws)
  where
    go : (o : Option Refusal) → Judges ws o → settled o (table_of ws) ≡ accepted (table_of ws)
    go none m = refl
    go (some f) M = absurd (n (number_of f) (place_of f) M.there)
