-- The sheet's text by the words of an accepted table: a pair's lines by its head and its masks, the body by its counts.
use mathlib.Core.Path.{◌≡◌, ap, ◌∙◌}
use mathlib.Core.List.{List, ◌++◌}
use Prim.Native.Nat.{ℕ, ◌+◌, ◌-◌, ◌≤◌, ◌<◌}
use native.Mathlib.Nat.{sub-zero}
use native.Mathlib.Omega.{arith}
use lib.ListN.{length, get_or, take, drop, length-append}
use Rattle.reader.specs.declared.PairHead.{PairHead}
use Rattle.reader.specs.Reader.{head_at_lem}
use Rattle.lists.specs.Stores.{Wrote, Owes}
use Rattle.lists.proofs.Stores.{owes_all, owes_part, owes_none, owes_room}
use Rattle.table.specs.declared.Counts.{Counts}
use Rattle.table.specs.Words.{box_count, pair_count, size_at, pair_next, pair_at, pairs_at, table_of, Accepted, BoxStands, PairStands, Ahead}
use Rattle.table.specs.Answers.{Counted}
use Rattle.table.proofs.Tables.{table_size, table_boxes, table_count, accepted_ahead}
use Rattle.table.proofs.Words.{accepted_parts, ahead_turn, pairs_turn, pairs_last, sizes_inside}
use Rattle.text_out.specs.Texts.{line_of}
use Rattle.sheet.specs.Keys.{boxes_key, pairs_key, hard_line_lem, side_line_lem}
use Rattle.sheet.specs.Sheet.{values_text, rows_text, head_text, pair_text, pairs_text, body_text}
use Rattle.sheet.proofs.Sheets.{pairs_more, pairs_nil, length_sheet, short_sheet}
use Rattle.table.proofs.Round.{accepted_sound}
use Rattle.clause.specs.declared.Hard.{Hard}
use Rattle.clause.specs.declared.Side.{Side}

-- ---- the pair at a cursor, whose head is h

module _ (ws : List ℕ) (cursor : ℕ) (S : PairStands ws cursor) (h : PairHead) (e : h ≡ head_at_lem ws cursor) where
  pub head_second : BoxStands ws h.second
  unfolding pair_at
  head_second = rw e S.second

  pub head_next : h.next ≡ cursor + 3 + size_at ws (get_or ws cursor 0)
  unfolding pair_next
  head_next = ap (λ (h : PairHead). h.next) e

  pub pair_is : pair_text (table_of ws).sizes (pair_at ws cursor)
      ≡ head_text h.first h.second h.weight ++ rows_text (size_at ws h.second) (take (h.next - (cursor + 3)) (drop (cursor + 3) ws))
  unfolding pair_text pair_at pair_next
  pair_is =
      let b = S.second.number in
      let z : cursor + 3 + size_at ws (get_or ws cursor 0) - (cursor + 3) ≡ size_at ws (get_or ws cursor 0) = omega arith in
      rw (e, z, table_size ws (get_or ws (cursor + 1) 0) b.0 b.1)

  pub pair_long : length (pair_text (table_of ws).sizes (pair_at ws cursor))
      ≡ length (head_text h.first h.second h.weight) + length (rows_text (size_at ws h.second) (take (h.next - (cursor + 3)) (drop (cursor + 3) ws)))
  pair_long = simp length-append at (ap length pair_is)

-- ---- the loop over the pairs

module _ (ws : List ℕ) where
  abbrev Lines : (p cursor : ℕ) → List ℕ
  Lines p cursor = pairs_text (table_of ws).sizes (pairs_at ws p cursor)

  -- the lines of i of the p pairs from `first` on stand in the slice from `from` on, and those of the pairs from the cursor on are owed
  pub record Paired (old : List ℕ) (from first p : ℕ) (out : List ℕ) (at cursor i : ℕ) : Type 0 where
    pub some : i ≤ p
    pub ahead : Ahead ws (p - i) cursor
    pub owed : Owes old from (Lines p first) out at (Lines (p - i) cursor)

  pub paired_none : {old : List ℕ} {from first p : ℕ} → Ahead ws p first → Paired old from first p old from first 0
  paired_none a = record { some = omega arith; ahead = rw sub-zero a; owed = rw sub-zero owes_all }

  turn : (p i cursor : ℕ) → i < p → Lines (p - i) cursor ≡ pair_text (table_of ws).sizes (pair_at ws cursor) ++ Lines (p - (i + 1)) (pair_next ws cursor)
  turn p i cursor h = rw (pairs_turn ws p i cursor h) (pairs_more _ _ _)

  module _ {old out : List ℕ} {from first p at cursor i : ℕ} (l : Paired old from first p out at cursor i) where
    pub paired_stands : i < p → PairStands ws cursor
    paired_stands h = (ahead_turn ws p i cursor h l.ahead).0

    -- where all pairs' lines have room, the next one's have
    pub paired_room : {n : ℕ} → i < p → from + length (Lines p first) < n → at + length (pair_text (table_of ws).sizes (pair_at ws cursor)) < n
    paired_room h r = owes_room (pair_text (table_of ws).sizes (pair_at ws cursor)) (Lines (p - (i + 1)) (pair_next ws cursor)) l.owed (turn p i cursor h) r

    pub paired_turn : {new : List ℕ} {r : ℕ} {h : PairHead} → i < p → h ≡ head_at_lem ws cursor
        → Wrote out at (pair_text (table_of ws).sizes (pair_at ws cursor)) r new → Paired old from first p new r h.next (i + 1)
    paired_turn {h = h} b e w =
        let next : h.next ≡ pair_next ws cursor = ap (λ (h : PairHead). h.next) e in
        record {
          some = omega arith;
          ahead = rw next (ahead_turn ws p i cursor b l.ahead).1;
          owed = rw next (owes_part l.owed (turn p i cursor b) w);
        }

    pub paired_all : p ≤ i → Wrote old from (Lines p first) at out
    paired_all h = owes_none l.owed (rw (pairs_last ws p i cursor (omega arith)) (pairs_nil _))

-- ---- the whole of a table with these counts

body_words : (ws : List ℕ) → Accepted ws
    → body_text (table_of ws)
    ≡ line_of boxes_key (box_count ws)
    ++ (values_text (take (box_count ws) (drop 2 ws)) ++
    (line_of pairs_key (pair_count ws) ++ pairs_text (table_of ws).sizes (pairs_at ws (pair_count ws) (box_count ws + 2))))
unfolding body_text table_of
body_words ws A = rw (table_boxes ws A, table_count ws A)

pub record Begun (ws : List ℕ) (c : Counts) : Type 0 where
  pub few_boxes : c.boxes ≤ 64
  pub few_pairs : c.pairs ≤ 256
  pub inside : c.boxes + 2 ≤ length ws
  pub ahead : Ahead ws c.pairs (c.boxes + 2)
  pub text : body_text (table_of ws)
      ≡ line_of boxes_key c.boxes
      ++ (values_text (take (c.boxes + 2 - 2) (drop 2 ws)) ++
      (line_of pairs_key c.pairs ++ pairs_text (table_of ws).sizes (pairs_at ws c.pairs (c.boxes + 2))))

pub begun : (ws : List ℕ) (c : Counts) → Counted ws c → Begun ws c
begun ws c C =
    let A = C.table in
    let P = accepted_parts ws A in
    let b : c.boxes ≡ box_count ws = C.boxes ∙ table_boxes ws A in
    let p : c.pairs ≡ pair_count ws = C.pairs ∙ table_count ws A in
    let z : box_count ws + 2 - 2 ≡ box_count ws = omega arith in
    record {
      few_boxes = omega (arith, P.boxes.range.1);
      few_pairs = omega (arith, P.pairs.range.1);
      inside = omega (arith, sizes_inside ws P.boxes.range.0 P.sizes);
      ahead = rw (b, p) (accepted_ahead ws A);
      text = rw (b, p, z) (body_words ws A);
    }

pub body_long : (ws : List ℕ) (c : Counts) → Begun ws c
    → length (body_text (table_of ws))
    ≡ length (line_of boxes_key c.boxes)
    + (length (values_text (take (c.boxes + 2 - 2) (drop 2 ws)))
    + (length (line_of pairs_key c.pairs) + length (pairs_text (table_of ws).sizes (pairs_at ws c.pairs (c.boxes + 2)))))
body_long ws c B = simp length-append at (ap length B.text)

pub accepted_short : (ws : List ℕ) (h : Hard) (s : Side) → Accepted ws
    → length (hard_line_lem h) + (length (side_line_lem s) + length (body_text (table_of ws))) < 1000000
accepted_short ws h s A = let t = table_of ws in omega (arith, length_sheet h s t, short_sheet h s t (accepted_sound ws t A))
