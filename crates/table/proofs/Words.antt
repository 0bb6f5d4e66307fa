-- What it says of the words that a part of the reading meets no fault: each word read is there, and lies in its range.
use mathlib.Core.Path.{◌≡◌, refl, ap, subst}
use mathlib.Core.Logic.{◌≢◌}
use mathlib.Core.Option.{Option, none, some}
use mathlib.Core.List.{List, ◌∷◌, []}
use Prim.Native.Nat.{ℕ, zero, suc, ◌+◌, ◌-◌, ◌^◌, ◌≤◌, ◌<◌}
use native.Mathlib.Omega.{arith}
use lib.ListN.{length, get_or, take, drop, length-drop}
use lib.Seq.{length-take-le}
use lib.Dec.{ltb, leb}
use borrow.Author.Tests.{ltb-true, leb-true, eqb-true, eqb-false, not-true}
use Rattle.lists.specs.Firsts.{unless, first_of}
use Rattle.lists.proofs.Bits.{shift_none}
use Rattle.lists.proofs.Firsts.{unless_none, then_none, first_each}
use Rattle.refusal.specs.declared.Refusal.{Refusal}
use Rattle.refusal.specs.declared.Refusal.TheVariants.{Missing, Count, Domain, Partner, Weight}
use Rattle.table.specs.Table.{Table, In, boxes}
use Rattle.table.specs.Words.{box_count, pair_count, size_at, pair_next, pairs_end, pair_at, pairs_at, table_of, range_fault, mask_fault, size_fault}
use Rattle.table.specs.Words.{sizes_fault, partners_fault, pair_fault, pairs_fault, body_fault, first_fault_lem, settled, judged, refused}
use Rattle.table.specs.Words.{accepted, Accepted, BoxStands, PairStands, Ahead}

-- ---- one word

-- the word at `at` was read, is v and lies in low..high
pub record Ranged (ws : List ℕ) (at low high : ℕ) (f : Refusal) (v : ℕ) : Type 0 where
  pub fine : range_fault ws at low high f ≡ none
  pub inside : at < length ws
  pub range : In low high v
  pub is : get_or ws at 0 ≡ v

pub range_none : (ws : List ℕ) (at low high : ℕ) (f : Refusal) → range_fault ws at low high f ≡ none → Ranged ws at low high f (get_or ws at 0)
unfolding range_fault
range_none ws at low high f e =
    let p = then_none (unless (ltb at (length ws)) (Missing at)) _ e in
    let q = then_none (unless (leb low (get_or ws at 0)) f) _ p.1 in
    record {
      fine = e;
      inside = ltb-true _ _ (unless_none _ _ p.0);
      range = (leb-true _ _ (unless_none _ _ q.0), leb-true _ _ (unless_none _ _ q.1));
      is = refl;
    }

pub mask_none : (ws : List ℕ) (m at : ℕ) → mask_fault ws m at ≡ none → (at < length ws) × (get_or ws at 0 < 2 ^ m)
unfolding mask_fault
mask_none ws m at e =
    let p = then_none (unless (ltb at (length ws)) (Missing at)) _ e in
    (ltb-true _ _ (unless_none _ _ p.0), shift_none (get_or ws at 0) m (eqb-true _ _ (unless_none _ _ p.1)))

-- ---- the sizes

pub box_stands : (ws : List ℕ) (b : ℕ) → sizes_fault ws (box_count ws) 2 ≡ none → In 1 (box_count ws) b → BoxStands ws b
box_stands ws b e (l, h) =
    let k : 2 + (b - 1) ≡ b + 1 = omega arith in
    let r = range_none ws (b + 1) 1 16 (Domain (b + 1)) (subst (λ (j : ℕ). size_fault ws j ≡ none) k
    (first_each (size_fault ws) (box_count ws) 2 (b - 1) e (omega arith))) in
    record { number = (l, h); inside = r.inside; values = r.range }

pub sizes_inside : (ws : List ℕ) → 1 ≤ box_count ws → sizes_fault ws (box_count ws) 2 ≡ none → box_count ws + 2 ≤ length ws
sizes_inside ws l e = omega (arith, (box_stands ws (box_count ws) e (l, omega arith)).inside)

pub sizes_count : (ws : List ℕ) (n : ℕ) → n + 2 ≤ length ws → length (take n (drop 2 ws)) ≡ n
sizes_count ws n h = length-take-le n (drop 2 ws) (rw length-drop (omega arith))

-- ---- a pair

pub record Partners (ws : List ℕ) (n at : ℕ) : Type 0 where
  pub first : Ranged ws at 1 n (Partner at) (get_or ws at 0)
  pub second : Ranged ws (at + 1) 1 n (Partner (at + 1)) (get_or ws (at + 1) 0)
  pub differ : get_or ws (at + 1) 0 ≢ get_or ws at 0

pub partners_none : (ws : List ℕ) (n at : ℕ) → partners_fault ws n at ≡ none → Partners ws n at
unfolding partners_fault
partners_none ws n at e =
    let p = then_none (range_fault ws at 1 n (Partner at)) _ e in
    let q = then_none (range_fault ws (at + 1) 1 n (Partner (at + 1))) _ p.1 in
    record {
      first = range_none ws at 1 n (Partner at) p.0;
      second = range_none ws (at + 1) 1 n (Partner (at + 1)) q.0;
      differ = eqb-false _ _ (not-true _ (unless_none _ _ q.1));
    }

pub pair_stands : (ws : List ℕ) (at : ℕ) → sizes_fault ws (box_count ws) 2 ≡ none → pair_fault ws (box_count ws) at ≡ none → PairStands ws at
unfolding pair_fault
pair_stands ws at z e =
    let p = then_none (partners_fault ws (box_count ws) at) _ e in
    let q = then_none (range_fault ws (at + 2) 1 1000000 (Weight (at + 2))) _ p.1 in
    let b = partners_none ws (box_count ws) at p.0 in
    let first = box_stands ws (get_or ws at 0) z b.first.range in
    let second = box_stands ws (get_or ws (at + 1) 0) z b.second.range in
    let each = first_each (mask_fault ws (size_at ws (get_or ws (at + 1) 0))) (size_at ws (get_or ws at 0)) (at + 3) in
    let last = size_at ws (get_or ws at 0) - 1 in
    let m = size_at ws (get_or ws (at + 1) 0) in
    record {
      first = first;
      second = second;
      differ = b.differ;
      weight = (range_none ws (at + 2) 1 1000000 (Weight (at + 2)) q.0).range;
      masks = λ i h. (mask_none ws m (at + 3 + i) (each i q.1 h)).1;
      ends = omega (arith, (mask_none ws m (at + 3 + last) (each last q.1 (omega (arith, first.values.0)))).0, first.values.0);
    }

-- ---- the pairs

pub pairs_ahead : (ws : List ℕ) (k at : ℕ) → sizes_fault ws (box_count ws) 2 ≡ none → pairs_fault ws (box_count ws) k at ≡ none → Ahead ws k at
unfolding first_of
pairs_ahead ws zero at z e = tt
pairs_ahead ws (suc k) at z e =
    let p = then_none (pair_fault ws (box_count ws) at) _ e in
    (pair_stands ws at z p.0, pairs_ahead ws k (pair_next ws at) z p.1)

-- a turn of a loop over the pairs of which k are passed
module _ (ws : List ℕ) (p k at : ℕ) where
  pub ahead_turn : k < p → Ahead ws (p - k) at → PairStands ws at × Ahead ws (p - (k + 1)) (pair_next ws at)
  ahead_turn h a = let e : p - k ≡ suc (p - (k + 1)) = omega arith in rw e at a

  pub pairs_turn : k < p → pairs_at ws (p - k) at ≡ pair_at ws at ∷ pairs_at ws (p - (k + 1)) (pair_next ws at)
  unfolding pairs_at
  pairs_turn h = let e : p - k ≡ suc (p - (k + 1)) = omega arith in rw e

  pub pairs_last : p - k ≡ 0 → pairs_at ws (p - k) at ≡ []
  unfolding pairs_at
  pairs_last e = rw e

  pub end_turn : k < p → pairs_end ws (p - k) at ≡ pairs_end ws (p - (k + 1)) (pair_next ws at)
  unfolding pairs_end
  end_turn h = let e : p - k ≡ suc (p - (k + 1)) = omega arith in rw e

  pub end_last : p - k ≡ 0 → pairs_end ws (p - k) at ≡ at
  unfolding pairs_end
  end_last e = rw e

pub pairs_count : (ws : List ℕ) (k at : ℕ) → length (pairs_at ws k at) ≡ k
unfolding pairs_at
pairs_count ws zero at = refl
pairs_count ws (suc k) at = ap suc (pairs_count ws k (pair_next ws at))

-- ---- the whole

pub record Parts (ws : List ℕ) : Type 0 where
  pub boxes : Ranged ws 0 1 64 (Count 0) (box_count ws)
  pub pairs : Ranged ws 1 0 256 (Count 1) (pair_count ws)
  pub sizes : sizes_fault ws (box_count ws) 2 ≡ none
  pub each : pairs_fault ws (box_count ws) (pair_count ws) (box_count ws + 2) ≡ none
  pub ends : length ws ≤ pairs_end ws (pair_count ws) (box_count ws + 2)

pub fault_none : (ws : List ℕ) → first_fault_lem ws ≡ none → Parts ws
unfolding first_fault_lem body_fault
fault_none ws e =
    let p = then_none (range_fault ws 0 1 64 (Count 0)) _ e in
    let q = then_none (range_fault ws 1 0 256 (Count 1)) _ p.1 in
    let r = then_none (sizes_fault ws (box_count ws) 2) _ q.1 in
    let s = then_none (pairs_fault ws (box_count ws) (pair_count ws) (box_count ws + 2)) _ r.1 in
    record {
      boxes = range_none ws 0 1 64 (Count 0) p.0;
      pairs = range_none ws 1 0 256 (Count 1) q.0;
      sizes = r.0;
      each = s.0;
      ends = leb-true _ _ (unless_none _ _ s.1);
    }

pub table_counts : (ws : List ℕ) → first_fault_lem ws ≡ none → (boxes (table_of ws) ≡ box_count ws) × (length (table_of ws).pairs ≡ pair_count ws)
unfolding table_of
table_counts ws e =
    let p = fault_none ws e in
    (sizes_count ws (box_count ws) (sizes_inside ws p.boxes.range.0 p.sizes), pairs_count ws (pair_count ws) (box_count ws + 2))

-- ---- the judgement

settled_none : (o : Option Refusal) (t u : Table) → settled o t ≡ accepted u → (o ≡ none) × (t ≡ u)
settled_none none t u e = (refl, cc)
settled_none (some f) t u e = (cc, cc)

settled_some : (o : Option Refusal) (t : Table) {f : Refusal} → settled o t ≡ refused f → o ≡ some f
settled_some none t e = cc
settled_some (some g) t e = cc

pub refused_fault : (ws : List ℕ) (f : Refusal) → judged ws ≡ refused f → first_fault_lem ws ≡ some f
unfolding judged
refused_fault ws f e = settled_some (first_fault_lem ws) (table_of ws) e

-- what the words mean is what was accepted
pub accepted_fine : (ws : List ℕ) (t : Table) → judged ws ≡ accepted t → (first_fault_lem ws ≡ none) × (table_of ws ≡ t)
unfolding judged
accepted_fine ws t e = settled_none (first_fault_lem ws) (table_of ws) t e

pub accepted_parts : (ws : List ℕ) → Accepted ws → Parts ws
accepted_parts ws e = fault_none ws (accepted_fine ws (table_of ws) e).0
