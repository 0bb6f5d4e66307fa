-- The text box by box and pair by pair, as the two loops put it.
use mathlib.Core.Path.{◌≡◌, refl, ap, ◌∙◌}
use mathlib.Core.List.{List, [], ◌∷◌, ◌++◌}
use Prim.Native.Nat.{ℕ, zero, suc, ◌+◌, ◌-◌, ◌≤◌, ◌<◌}
use native.Mathlib.Omega.{arith}
use lib.ListN.{length}
use Rattle.lists.specs.Stores.{Wrote, Owes}
use Rattle.lists.proofs.Stores.{wrote_append, wrote_long, owes_all, owes_part, owes_none}
use Rattle.table.specs.declared.Counts.{Counts}
use Rattle.table.specs.Table.{Table}
use Rattle.table.specs.Words.{box_count, pair_at, pair_next, table_of, Accepted, PairStands}
use Rattle.table.specs.Answers.{Counted}
use Rattle.table.proofs.Tables.{pair_weight}
use Rattle.clause.specs.declared.Encoding.{Encoding}
use Rattle.clause.specs.declared.Hard.{Hard}
use Rattle.clause.specs.declared.Side.{Side}
use Rattle.clause.specs.Clause.{plus, minus}
use Rattle.clause.specs.Hard.{box_clauses}
use Rattle.clause.specs.List.{hard_part, soft_part, pair_clauses}
use Rattle.clause.specs.Lengths.{clause_count, top}
use Rattle.clause.specs.Numbers.{values, thresholds, variables}
use Rattle.clause.specs.Soft.{soft}
use Rattle.clause.proofs.Turns.{hard_from, hard_turn, hard_end, soft_ahead, soft_turn, soft_end}
use Rattle.totals.proofs.Starts.{hard_start, soft_start}
use Rattle.parts.proofs.Writing.{switched}
use Rattle.measure.specs.declared.Lengths.{Lengths}
use Rattle.measure.specs.Measures.{lengths_for}
use Rattle.wcnf.specs.Wcnf.{header_text, lines_of, shown, body_text, wcnf_text}
use Rattle.wcnf.proofs.Parts.{lines_append, lines_none, body_part, body_none, body_parts}
use Rattle.wcnf_text.specs.Text.{text_of}

-- ---- the boxes

-- what the boxes from b on have is owed
pub record Boxes (w : ℕ) (h : Hard) (ws : List ℕ) (n : ℕ) (old : List ℕ) (from : ℕ) (out : List ℕ) (at b : ℕ) : Type 0 where
  pub owed : Owes old from (lines_of w (hard_part h (table_of ws))) out at (lines_of w (hard_from h (table_of ws) n b))

module _ {w : ℕ} {h : Hard} {ws : List ℕ} {n : ℕ} where
  pub boxes_all : {old : List ℕ} {from : ℕ} → Accepted ws → n ≡ box_count ws → Boxes w h ws n old from old from 1
  boxes_all A e = record { owed = rw (hard_start h ws n A e) owes_all }

  module _ {old out : List ℕ} {from at b : ℕ} (B : Boxes w h ws n old from out at b) where
    pub boxes_turn : {new : List ℕ} {r : ℕ} → b ≤ n → Wrote out at (lines_of w (box_clauses h (table_of ws) b)) r new
        → Boxes w h ws n old from new r (b + 1)
    boxes_turn l put =
        let t = table_of ws in
        let turn = ap (lines_of w) (hard_turn h t n b l) ∙ lines_append w (box_clauses h t b) (hard_from h t n (b + 1)) in
        record { owed = owes_part B.owed turn put }

    pub boxes_none : n < b → Wrote old from (lines_of w (hard_part h (table_of ws))) at out
    boxes_none l = owes_none B.owed (ap (lines_of w) (hard_end h (table_of ws) n b l) ∙ lines_none w)

-- ---- the pairs

-- a soft clause shows its own weight
pub shown_own : (t w : ℕ) → 1 ≤ w → shown t w ≡ w
shown_own t zero h = absurd (omega arith)
shown_own t (suc w) h = refl

pub pairs_turn : (h : Hard) (s : Side) (ws : List ℕ) (p k at : ℕ) → PairStands ws at → k < p
    → body_text (top (table_of ws)) (soft_ahead h s ws p k at)
    ≡ lines_of (pair_at ws at).weight (pair_clauses h s (table_of ws) (k + 1) (pair_at ws at))
    ++ body_text (top (table_of ws)) (soft_ahead h s ws p (k + 1) (pair_next ws at))
pairs_turn h s ws p k at S l =
    let T = top (table_of ws) in
    let w = (pair_at ws at).weight in
    let cs = pair_clauses h s (table_of ws) (k + 1) (pair_at ws at) in
    let rest = soft_ahead h s ws p (k + 1) (pair_next ws at) in
    let own : shown T w ≡ w = shown_own T w (rw (pair_weight ws at) S.weight.0) in
    ap (body_text T) (soft_turn h s ws p k at l) ∙ body_part T w cs rest ∙ ap (λ (v : ℕ). lines_of v cs ++ body_text T rest) own

-- what the pairs ahead have is owed, with whichever hard part `base` is the number before c_1 of
pub record Shows (s : Side) (ws : List ℕ) (p : ℕ) (old : List ℕ) (from base : ℕ) (out : List ℕ) (cursor at k : ℕ) : Type 0 where
  pub owed : (h : Hard) → base ≡ values (table_of ws) + thresholds (table_of ws) h
      → Owes old from (body_text (top (table_of ws)) (soft_part h s (table_of ws))) out cursor (body_text (top (table_of ws)) (soft_ahead h s ws p k at))
  pub long : length out ≡ length old

module _ (s : Side) (ws : List ℕ) where
  pub shows_all : (n : Counts) → Counted ws n → {old : List ℕ} {from base : ℕ} → Shows s ws n.pairs old from base old from (n.boxes + 2) 0
  shows_all n C = record { owed = λ h e. rw (soft_start h s ws n C) owes_all; long = refl }

  pub shows_turn : (p k at : ℕ) → PairStands ws at → k < p → {old out new : List ℕ} {from base cursor next v at' : ℕ} → v ≡ base + k → at' ≡ pair_next ws at
      → Wrote out cursor (lines_of (pair_at ws at).weight (soft s (table_of ws) (plus (v + 1) ∷ []) (minus (v + 1) ∷ []) (pair_at ws at))) next new
      → Shows s ws p old from base out cursor at k → Shows s ws p old from base new next at' (k + 1)
  shows_turn p k at S l {v = v} e n w W =
      rw n (record {
        owed = λ h b. owes_part (W.owed h b) (pairs_turn h s ws p k at S l)
            (rw (switched h s (table_of ws) (k + 1) (v + 1) (pair_at ws at) (omega (arith, e, b))) at w);
        long = wrote_long w ∙ W.long;
      })

  pub shows_none : (h : Hard) {p k at from base cursor : ℕ} {old out : List ℕ} → p - k ≡ 0 → base ≡ values (table_of ws) + thresholds (table_of ws) h
      → Shows s ws p old from base out cursor at k → Wrote old from (body_text (top (table_of ws)) (soft_part h s (table_of ws))) cursor out
  shows_none h {p} {k} {at} z e W =
      owes_none (W.owed h e) (ap (body_text (top (table_of ws))) (soft_end h s ws p k at z) ∙ body_none (top (table_of ws)))

-- ---- the whole

pub text_parts : (e : Encoding) (t : Table)
    → text_of e t
    ≡ header_text (variables t e.hard e.side) (clause_count e.hard e.side t) (top t)
    ++ (lines_of (top t) (hard_part e.hard t) ++ body_text (top t) (soft_part e.hard e.side t))
unfolding wcnf_text
text_parts e t = ap (λ (l : List ℕ). header_text (variables t e.hard e.side) (clause_count e.hard e.side t) (top t) ++ l)
    (body_parts (top t) e.hard e.side t)

pub text_put : (e : Encoding) (t : Table) {n : Lengths} → n ≡ lengths_for e t → {old mid late new : List ℕ} {a b r : ℕ}
    → Wrote old 0 (header_text n.variables n.clauses n.top) a mid → Wrote mid a (lines_of n.top (hard_part e.hard t)) b late
    → Wrote late b (body_text (top t) (soft_part e.hard e.side t)) r new → Wrote old 0 (text_of e t) r new
text_put e t n p q w = rw (text_parts e t) (wrote_append (rw n at p) (wrote_append (rw n at q) w))
