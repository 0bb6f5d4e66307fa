-- The header, the lines of each box and the lines of each pair, in order, are the whole text.
use mathlib.Core.Path.{◌≡◌, sym, ap, ap₂, subst, ◌∙◌}
use mathlib.Core.List.{List, [], ◌∷◌, ◌++◌, flat_map}
use Prim.Native.Nat.{ℕ, zero, suc, ◌+◌, ◌≤◌}
use Rattle.lists.specs.Lists.{count, Each}
use Rattle.table.specs.Table.{Table, Pair, boxes}
use Rattle.table.specs.Words.{box_count, pair_count, pair_next, pairs_at, table_of, Accepted, Ahead}
use Rattle.table.proofs.Tables.{table_pairs, pair_weight, accepted_ahead}
use Rattle.clause.specs.declared.Encoding.{Encoding}
use Rattle.clause.specs.declared.Hard.{Hard}
use Rattle.clause.specs.declared.Side.{Side}
use Rattle.clause.specs.Hard.{box_clauses}
use Rattle.clause.specs.List.{hard_part, pair_clauses, soft_from, soft_part}
use Rattle.clause.specs.Lengths.{clause_count, top}
use Rattle.clause.specs.Numbers.{variables}
use Rattle.wcnf.specs.Wcnf.{header_text, lines_of, body_text}
use Rattle.wcnf.proofs.Parts.{lines_append, lines_none, body_part, body_none}
use Rattle.wcnf_text.specs.Text.{text_of}
use Rattle.wcnf_text.proofs.Texts.{shown_own, text_parts}
use Rattle.wcnf_out.specs.Parts.{box_text, pairs_text, in_parts}

module _ (h : Hard) (s : Side) (t : Table) where
  boxes_lines : (bs : List ℕ) → lines_of (top t) (flat_map (box_clauses h t) bs) ≡ flat_map (box_text h t) bs
  unfolding flat_map
  boxes_lines [] = lines_none (top t)
  boxes_lines (b ∷ bs) = lines_append (top t) (box_clauses h t b) (flat_map (box_clauses h t) bs) ∙ ap (λ (l : List ℕ). box_text h t b ++ l) (boxes_lines bs)

  pairs_lines : (k : ℕ) (ps : List Pair) → Each (λ p. 1 ≤ p.weight) ps → body_text (top t) (soft_from h s t k ps) ≡ pairs_text h s t k ps
  unfolding soft_from
  pairs_lines k [] n = body_none (top t)
  pairs_lines k (p ∷ ps) n =
      body_part (top t) p.weight (pair_clauses h s t k p) (soft_from h s t (suc k) ps)
      ∙ ap₂ (λ (w : ℕ) (l : List ℕ). lines_of w (pair_clauses h s t k p) ++ l) (shown_own (top t) p.weight n.0) (pairs_lines (suc k) ps n.1)

-- for a table whose pairs have weights
text_in_parts : (e : Encoding) (t : Table) → Each (λ p. 1 ≤ p.weight) t.pairs → text_of e t ≡ in_parts e.hard e.side t
unfolding in_parts hard_part soft_part
text_in_parts e t n =
    let head = header_text (variables t e.hard e.side) (clause_count e.hard e.side t) (top t) in
    let boxed = boxes_lines e.hard e.side t (count 1 (boxes t)) in
    let paired = pairs_lines e.hard e.side t 1 t.pairs n in
    text_parts e t ∙ ap (λ (l : List ℕ). head ++ l) (ap₂ (λ (a b : List ℕ). a ++ b) boxed paired)

-- as every accepted table's have
weighed : (ws : List ℕ) (k at : ℕ) → Ahead ws k at → Each (λ p. 1 ≤ p.weight) (pairs_at ws k at)
unfolding pairs_at
weighed ws zero at a = tt
weighed ws (suc k) at a = (rw (pair_weight ws at) a.0.weight.0, weighed ws k (pair_next ws at) a.1)

pub accepted_in_parts : (ws : List ℕ) (e : Encoding) → Accepted ws → text_of e (table_of ws) ≡ in_parts e.hard e.side (table_of ws)
accepted_in_parts ws e A =
    let each = weighed ws (pair_count ws) (box_count ws + 2) (accepted_ahead ws A) in
    text_in_parts e (table_of ws) (subst (λ (ps : List Pair). Each (λ p. 1 ≤ p.weight) ps) (sym (table_pairs ws)) each)
