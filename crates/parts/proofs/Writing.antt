-- What the parts that are written come to: a box by the numbers counted for it, and the pairs ahead.
use mathlib.Core.Path.{◌≡◌, refl, ap, ◌∙◌}
use mathlib.Core.List.{List, [], ◌∷◌}
use Prim.Native.Nat.{ℕ, ◌+◌, ◌-◌, ◌^◌, ◌≤◌, ◌<◌}
use native.Mathlib.Omega.{arith}
use lib.ListN.{length}
use lib.IntN.{ℤ}
use Rattle.lists.specs.Stores.{Wrote, Owes}
use Rattle.lists.proofs.Stores.{wrote_long, owes_all, owes_part, owes_none, owes_room}
use Rattle.table.specs.declared.Counts.{Counts}
use Rattle.table.specs.Table.{Table, Pair, boxes}
use Rattle.table.specs.Words.{box_count, size_at, pair_at, pair_next, table_of, Accepted, BoxStands}
use Rattle.table.specs.Answers.{Counted}
use Rattle.table.proofs.Words.{accepted_parts}
use Rattle.table.proofs.Tables.{table_size, table_boxes}
use Rattle.clause.specs.declared.Hard.{Hard}
use Rattle.clause.specs.declared.Side.{Side}
use Rattle.clause.specs.Clause.{plus, minus, entries_of, entries}
use Rattle.clause.specs.Numbers.{values, thresholds, value_base_lem, step_base_lem, c}
use Rattle.clause.specs.Hard.{box_with, box_clauses}
use Rattle.clause.specs.Soft.{soft}
use Rattle.clause.specs.List.{hard_part, pair_clauses, soft_part}
use Rattle.clause.proofs.Turns.{hard_from, hard_text, hard_end, soft_ahead, soft_end, soft_text}
use Rattle.clause.proofs.Lengths.{entries_of_none}
use Rattle.totals.proofs.Starts.{hard_start, soft_start}

pub box_is : (h : Hard) (ws : List ℕ) (b v s m : ℕ) → BoxStands ws b → v ≡ value_base_lem (table_of ws) b → s ≡ step_base_lem (table_of ws) b → m ≡ size_at ws b
    → box_with h v s m ≡ box_clauses h (table_of ws) b
unfolding box_clauses
box_is h ws b v s m B p q r = rw (p, q, r, ← table_size ws b B.number.0 B.number.1)

-- what an accepted table has for the loops below: its first word, and few boxes
pub head_inside : (ws : List ℕ) → Accepted ws → 0 < length ws
head_inside ws A = (accepted_parts ws A).boxes.inside

pub boxes_few : (ws : List ℕ) → Accepted ws → boxes (table_of ws) ≤ 64
boxes_few ws A = rw (table_boxes ws A) (accepted_parts ws A).boxes.range.1

-- ---- the boxes

-- what the boxes from b on have is owed
pub record Hards (h : Hard) (ws : List ℕ) (n : ℕ) (old : List ℤ) (from : ℕ) (out : List ℤ) (at b : ℕ) : Type 0 where
  pub owed : Owes old from (entries_of (hard_part h (table_of ws))) out at (entries_of (hard_from h (table_of ws) n b))

module _ {h : Hard} {ws : List ℕ} {n : ℕ} where
  pub hards_all : {old : List ℤ} {from : ℕ} → Accepted ws → n ≡ box_count ws → Hards h ws n old from old from 1
  hards_all A e = record { owed = rw (hard_start h ws n A e) owes_all }

  module _ {old out : List ℤ} {from at b : ℕ} (H : Hards h ws n old from out at b) where
    pub hards_turn : {new : List ℤ} {r : ℕ} → b ≤ n → Wrote out at (entries_of (box_clauses h (table_of ws) b)) r new → Hards h ws n old from new r (b + 1)
    hards_turn l w = record { owed = owes_part H.owed (hard_text h (table_of ws) n b l) w }

    pub hards_room : b ≤ n → from + length (entries_of (hard_part h (table_of ws))) < 2 ^ 64 → at + length (entries_of (box_clauses h (table_of ws) b)) < 2 ^ 64
    hards_room l = owes_room (entries_of (box_clauses h (table_of ws) b)) _ H.owed (hard_text h (table_of ws) n b l)

    pub hards_none : n < b → Wrote old from (entries_of (hard_part h (table_of ws))) at out
    hards_none l = owes_none H.owed (ap entries_of (hard_end h (table_of ws) n b l) ∙ entries_of_none)

-- ---- the pairs

-- a pair's clauses, by the number of its c_k
pub switched : (h : Hard) (s : Side) (t : Table) (k v : ℕ) (p : Pair) → v ≡ values t + thresholds t h + k
    → soft s t (plus v ∷ []) (minus v ∷ []) p ≡ pair_clauses h s t k p
unfolding pair_clauses c
switched h s t k v p e = rw e

-- what the pairs ahead have is owed, with whichever hard part `base` is the number before c_1 of
pub record Writes (s : Side) (ws : List ℕ) (p : ℕ) (old : List ℤ) (from base : ℕ) (out : List ℤ) (cursor at k : ℕ) : Type 0 where
  pub owed : (h : Hard) → base ≡ values (table_of ws) + thresholds (table_of ws) h
      → Owes old from (entries (soft_part h s (table_of ws))) out cursor (entries (soft_ahead h s ws p k at))
  pub long : length out ≡ length old

module _ (s : Side) (ws : List ℕ) where
  pub writes_all : (n : Counts) → Counted ws n → {old : List ℤ} {from base : ℕ} → Writes s ws n.pairs old from base old from (n.boxes + 2) 0
  writes_all n C = record { owed = λ h e. rw (soft_start h s ws n C) owes_all; long = refl }

  pub writes_turn : (p k at : ℕ) → k < p → {old out new : List ℤ} {from base cursor next v at' : ℕ} → v ≡ base + k → at' ≡ pair_next ws at
      → Wrote out cursor (entries_of (soft s (table_of ws) (plus (v + 1) ∷ []) (minus (v + 1) ∷ []) (pair_at ws at))) next new
      → Writes s ws p old from base out cursor at k → Writes s ws p old from base new next at' (k + 1)
  writes_turn p k at l {v = v} e n w W =
      rw n (record {
        owed = λ h b. owes_part (W.owed h b) (soft_text h s ws p k at l)
            (rw (switched h s (table_of ws) (k + 1) (v + 1) (pair_at ws at) (omega (arith, e, b))) at w);
        long = wrote_long w ∙ W.long;
      })

  pub writes_none : (h : Hard) {p k at from base cursor : ℕ} {old out : List ℤ} → p - k ≡ 0 → base ≡ values (table_of ws) + thresholds (table_of ws) h
      → Writes s ws p old from base out cursor at k → Wrote old from (entries (soft_part h s (table_of ws))) cursor out
  unfolding entries
  writes_none h {p} {k} {at} z e W = owes_none (W.owed h e) (ap entries (soft_end h s ws p k at z) ∙ entries_of_none)
