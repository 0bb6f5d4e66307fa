-- The scratch slices through the pairs: what the pairs ahead ask of them, and what is left in them.
use mathlib.Core.Path.{◌≡◌, refl, sym, ap, ◌∙◌}
use mathlib.Core.List.{List, [], ◌∷◌}
use Prim.Native.Nat.{ℕ, ◌+◌, ◌-◌, ◌≤◌, ◌<◌, max}
use native.Mathlib.Nat.{sub-zero, le_trans, le-max_left, le-max_right}
use lib.ListN.{length}
use lib.IntN.{ℤ}
use lib.Seq.{length-sets}
use Rattle.table.specs.declared.Counts.{Counts}
use Rattle.table.specs.Table.{Table, Pair}
use Rattle.table.specs.Words.{pair_at, pair_next, pairs_at, table_of}
use Rattle.table.specs.Answers.{Counted}
use Rattle.table.proofs.Words.{pairs_turn, pairs_last}
use Rattle.table.proofs.Tables.{table_pairs, counted_start}
use Rattle.clause.specs.declared.Side.{Side}
use Rattle.clause.specs.declared.Side.TheVariants.{Direct, Support, First, Literals, Score}
use Rattle.clause.specs.Clause.{entries_of}
use Rattle.clause.specs.Ends.{Which, end, support_clauses}
use Rattle.clause.specs.Lengths.{longest, scratch_length}
use Rattle.soft.specs.Scratch.{pair_scratch, scratch_with}
use Rattle.parts.specs.Parts.{scratch_through}

-- what the pairs ahead ask of an end's slice
abbrev pub asked : Side → Which → List ℕ → ℕ → ℕ → ℕ
asked s w ws k at = longest (pair_scratch s w (table_of ws)) (pairs_at ws k at)

longest_none : {A : Type 0} (l : List A) → longest (λ a. 0) l ≡ 0
longest_none [] = refl
longest_none (a ∷ l) = ap (max 0) (longest_none l)

scratch_asks : (s : Side) (w : Which) (t : Table) → longest (pair_scratch s w t) t.pairs ≡ scratch_length s w t
unfolding scratch_length
scratch_asks Direct w t = longest_none t.pairs
scratch_asks Support w t = longest_none t.pairs
scratch_asks First w t = longest_none t.pairs
scratch_asks Literals w t = refl
scratch_asks Score w t = refl

pub asked_all : (s : Side) (w : Which) (ws : List ℕ) (c : Counts) → Counted ws c → asked s w ws (c.pairs - 0) (c.boxes + 2) ≡ scratch_length s w (table_of ws)
asked_all s w ws c C =
    let b = counted_start ws c C in
    rw (sub-zero, b.pairs, b.boxes, ← table_pairs ws) (scratch_asks s w (table_of ws))

module _ (s : Side) (w : Which) (ws : List ℕ) (p k at n : ℕ) (l : k < p) (h : asked s w ws (p - k) at ≤ n) where
  turn : max (pair_scratch s w (table_of ws) (pair_at ws at)) (asked s w ws (p - (k + 1)) (pair_next ws at)) ≤ n
  turn = rw (pairs_turn ws p k at l) at h

  pub asked_now : pair_scratch s w (table_of ws) (pair_at ws at) ≤ n
  asked_now = le_trans (le-max_left _ _) turn

  pub asked_next : asked s w ws (p - (k + 1)) (pair_next ws at) ≤ n
  asked_next = le_trans (le-max_right _ _) turn

-- ---- what is left

-- stores leave a slice as long as it was
pub with_long : (s : Side) (w : Which) (t : Table) (p : Pair) (old : List ℤ) → length (scratch_with s w t p old) ≡ length old
with_long Direct w t p old = refl
with_long Support w t p old = refl
with_long First w t p old = refl
with_long Literals w t p old = length-sets old 0 (entries_of (support_clauses (end t p w) []))
with_long Score w t p old = length-sets old 0 (entries_of (support_clauses (end t p w) []))

pub through_long : (s : Side) (w : Which) (t : Table) (ps : List Pair) (old : List ℤ) → length (scratch_through s w t ps old) ≡ length old
through_long s w t [] old = refl
through_long s w t (p ∷ ps) old = through_long s w t ps (scratch_with s w t p old) ∙ with_long s w t p old

-- what the pairs ahead will leave is what all will: of a slice that was `old` and is `now`
pub record Leaves (s : Side) (w : Which) (ws : List ℕ) (k at : ℕ) (old now : List ℤ) : Type 0 where
  pub rest : scratch_through s w (table_of ws) (pairs_at ws k at) now ≡ scratch_through s w (table_of ws) (table_of ws).pairs old
  pub long : length now ≡ length old

module _ (s : Side) (w : Which) (ws : List ℕ) where
  pub leaves_all : (c : Counts) → Counted ws c → (l : List ℤ) → Leaves s w ws (c.pairs - 0) (c.boxes + 2) l l
  leaves_all c C l =
      let b = counted_start ws c C in
      record { rest = rw (sub-zero, b.pairs, b.boxes, ← table_pairs ws); long = refl }

  pub leaves_turn : (p k at : ℕ) → k < p → {at' : ℕ} {old now new : List ℤ} → at' ≡ pair_next ws at → new ≡ scratch_with s w (table_of ws) (pair_at ws at) now
      → Leaves s w ws (p - k) at old now → Leaves s w ws (p - (k + 1)) at' old new
  leaves_turn p k at l {now = now} n e L =
      record {
        rest = rw (n, e) (ap (λ (ps : List Pair). scratch_through s w (table_of ws) ps now) (sym (pairs_turn ws p k at l)) ∙ L.rest);
        long = ap length e ∙ with_long s w (table_of ws) (pair_at ws at) now ∙ L.long;
      }

  pub leaves_none : (p k at : ℕ) → p - k ≡ 0 → {old now : List ℤ} → Leaves s w ws (p - k) at old now
      → now ≡ scratch_through s w (table_of ws) (table_of ws).pairs old
  leaves_none p k at z {now = now} L = ap (λ (ps : List Pair). scratch_through s w (table_of ws) ps now) (sym (pairs_last ws p k at z)) ∙ L.rest
