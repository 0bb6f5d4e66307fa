-- Where the loops over the boxes and over the pairs start, all is ahead.
use mathlib.Core.Path.{◌≡◌, sym, ap, ◌∙◌}
use mathlib.Core.List.{List}
use Prim.Native.Nat.{ℕ, ◌+◌}
use Rattle.table.specs.declared.Counts.{Counts}
use Rattle.table.specs.Words.{box_count, table_of, Accepted}
use Rattle.table.specs.Answers.{Counted}
use Rattle.table.proofs.Tables.{table_boxes, counted_start}
use Rattle.clause.specs.declared.Hard.{Hard}
use Rattle.clause.specs.declared.Side.{Side}
use Rattle.clause.specs.List.{hard_part, soft_part}
use Rattle.clause.proofs.Turns.{hard_from, hard_all, soft_ahead, soft_all}

pub hard_start : (h : Hard) (ws : List ℕ) (n : ℕ) → Accepted ws → n ≡ box_count ws → hard_from h (table_of ws) n 1 ≡ hard_part h (table_of ws)
hard_start h ws n A e = ap (λ (k : ℕ). hard_from h (table_of ws) k 1) (e ∙ sym (table_boxes ws A)) ∙ hard_all h (table_of ws)

pub soft_start : (h : Hard) (s : Side) (ws : List ℕ) (n : Counts) → Counted ws n → soft_ahead h s ws n.pairs 0 (n.boxes + 2) ≡ soft_part h s (table_of ws)
soft_start h s ws n C = let b = counted_start ws n C in rw (b.pairs, b.boxes) (soft_all h s ws)
