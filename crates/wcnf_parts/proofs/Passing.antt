-- A part's clauses, held in the lent slice as entries and put from there, are its lines.
use mathlib.Core.Path.{◌≡◌, ap, ◌∙◌}
use mathlib.Core.List.{List, [], ◌∷◌}
use Prim.Native.Nat.{ℕ, ◌+◌, ◌*◌, ◌^◌, ◌≤◌, ◌<◌}
use native.Mathlib.Omega.{arith}
use lib.ListN.{length, take}
use lib.IntN.{ℤ}
use Rattle.lists.specs.Stores.{Wrote}
use Rattle.lists.proofs.Stores.{wrote_long}
use Rattle.table.specs.Words.{box_count, pair_at, table_of, Accepted, PairStands}
use Rattle.table.specs.Table.{In}
use Rattle.table.proofs.Tables.{accepted_box}
use Rattle.clause.specs.declared.Hard.{Hard}
use Rattle.clause.specs.declared.Side.{Side}
use Rattle.clause.specs.Clause.{plus, minus, Clause, entries_of}
use Rattle.clause.specs.Ends.{one, two}
use Rattle.clause.specs.Hard.{box_clauses}
use Rattle.clause.specs.Soft.{soft}
use Rattle.clause.proofs.Lengths.{soft_room}
use Rattle.sight.proofs.Sight.{pair_small}
use Rattle.totals.proofs.Counting.{box_few}
use Rattle.both_ends.proofs.Ends.{begins}
use Rattle.wcnf.specs.Wcnf.{lines_of}
use Rattle.wcnf.specs.Entries.{entries_text}
use Rattle.wcnf.proofs.Named.{AllNamed}
use Rattle.wcnf.proofs.Parts.{lines_put}

-- no part has more entries than the slice
pub box_short : (h : Hard) (ws : List ℕ) (b : ℕ) → Accepted ws → In 1 (box_count ws) b → length (entries_of (box_clauses h (table_of ws) b)) ≤ 1024
box_short h ws b A i = omega (arith, (box_few h ws A b (accepted_box ws b A i)).entries)

pub pair_short : (s : Side) (ws : List ℕ) (at v : ℕ) → Accepted ws → PairStands ws at
    → length (entries_of (soft s (table_of ws) (plus v ∷ []) (minus v ∷ []) (pair_at ws at))) ≤ 1024
unfolding soft
pair_short s ws at v A S = (soft_room _ _ (pair_small ws at A S one) (pair_small ws at A S two) (plus v ∷ [])
    (minus v ∷ []) (omega arith) (omega arith) s).entries

module _ (cs : List Clause) (short : length (entries_of cs) ≤ 1024) where
  pub fits : 0 + length (entries_of cs) < 2 ^ 64
  fits = omega arith

  module _ {old new : List ℤ} {long : ℕ} (w : Wrote old 0 (entries_of cs) long new) (room : 1024 ≤ length old) where
    -- what is put from the slice is within it, and moves the cursor by no more than is said
    pub passed : (at : ℕ) → at + 65536 < 2 ^ 64 → (long ≤ length new) × (at + 64 * long < 2 ^ 64)
    passed at h = (omega (arith, w.next, wrote_long w), omega (arith, w.next))

    pub few : (at : ℕ) {r : ℕ} → r ≤ at + 64 * long → r ≤ at + 65536
    few at h = omega (arith, w.next)

    pub printed : (v : ℕ) {at r : ℕ} {text text' : List ℕ} → AllNamed cs → Wrote text at (entries_text v (take long new)) r text'
        → Wrote text at (lines_of v cs) r text'
    printed v {at} {r} {text} {text'} n p =
        let is : entries_text v (take long new) ≡ lines_of v cs = ap (entries_text v) (begins w (omega arith)) ∙ lines_put v cs n in
        rw is at p
