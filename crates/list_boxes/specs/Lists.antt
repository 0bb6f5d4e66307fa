-- A list of 0 and 1 as a solver gives it, box by box: whether a box's hard clauses are true, and the value that it holds.
use Rattle.std.specs.Prelude.{ℕ, zero, suc, ◌≤◌, Bool, cond, List}
use Rattle.table.specs.Table.{Table, size}
use Rattle.clause.specs.declared.Hard.{Hard}
use Rattle.clause.specs.Clause.{Reading, reads, all_true}
use Rattle.clause.specs.Numbers.{x}
use Rattle.clause.specs.Hard.{box_clauses}

-- 0 or 1
abbrev pub Bit : ℕ → Type 0
Bit v = v ≤ 1

-- every hard clause of box b is true, those of its thresholds included
unfoldable pub box_ok_lem : Hard → Table → List ℕ → ℕ → Bool
box_ok_lem h t l b = all_true (reads l) (box_clauses h t b)

-- the first of n values from j on whose variable is true; 0 if none is
unfoldable pub held : Reading → (ℕ → ℕ) → ℕ → ℕ → ℕ
held ν x j zero = 0
held ν x j (suc n) = cond (ν (x j)) j (held ν x (suc j) n)

-- the value that box b holds
abbrev pub value_of : Table → List ℕ → ℕ → ℕ
value_of t l b = held (reads l) (x t b) 1 (size t b)
