-- Which lists are accepted, in the words of the clause list, and the lowest place of what is wrong with one that is not.
use Rattle.std.specs.Prelude.{ℕ, ◌≡◌, true, List, length, get_or}
use Rattle.lists.specs.Lists.{Each}
use Rattle.lists.specs.Firsts.{Lowest}
use Rattle.table.specs.Table.{Table, boxes}
use Rattle.clause.specs.declared.Hard.{Hard}
use Rattle.clause.specs.declared.Side.{Side}
use Rattle.clause.specs.Clause.{reads, hard_true}
use Rattle.clause.specs.Numbers.{variables}
use Rattle.clause.specs.List.{clauses}
use Rattle.list_boxes.specs.Lists.{Bit, box_ok_lem}

-- The list has an entry for each variable, each entry is 0 or 1, and every hard clause of the clause list is true.
pub record Accepts (h : Hard) (s : Side) (t : Table) (l : List ℕ) : Type 0 where
  pub long : length l ≡ variables t h s
  pub bits : Each Bit l
  pub hard : hard_true (reads l) (clauses h s t) ≡ true

-- the lowest index of an entry that is not 0 or 1
abbrev pub LowestEntry : List ℕ → ℕ → Type 0
LowestEntry l i = Lowest (λ j. Bit (get_or l j 0)) 0 (length l) i

-- the lowest box one of whose hard clauses is false
abbrev pub LowestBroken : Hard → Table → List ℕ → ℕ → Type 0
LowestBroken h t l b = Lowest (λ c. box_ok_lem h t l c ≡ true) 1 (boxes t) b
