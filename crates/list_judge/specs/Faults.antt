-- What is wrong with a list first.
use Rattle.std.specs.Prelude.{ℕ, ◌+◌, List, length, get_or, leb, eqb}
use Rattle.std.proofs.Math.Option.{Option}
use Rattle.lists.specs.Firsts.{◌then◌, unless, first_of}
use Rattle.refusal.specs.declared.Refusal.{Refusal}
use Rattle.refusal.specs.declared.Refusal.TheVariants.{Length, Entry, Broken}
use Rattle.table.specs.Table.{Table, boxes}
use Rattle.clause.specs.declared.Hard.{Hard}
use Rattle.clause.specs.declared.Side.{Side}
use Rattle.clause.specs.Numbers.{variables}
use Rattle.list_boxes.specs.Lists.{box_ok_lem}

-- the entry at index i is 0 or 1
unfoldable pub entry_fault : List ℕ → ℕ → Option Refusal
entry_fault l i = unless (leb (get_or l i 0) 1) (Entry i)

abbrev pub entries_fault : List ℕ → Option Refusal
entries_fault l = first_of (entry_fault l) (λ i. i + 1) (length l) 0

-- box b has no false hard clause
unfoldable pub box_fault : Hard → Table → List ℕ → ℕ → Option Refusal
box_fault h t l b = unless (box_ok_lem h t l b) (Broken b)

abbrev pub boxes_fault : Hard → Table → List ℕ → Option Refusal
boxes_fault h t l = first_of (box_fault h t l) (λ b. b + 1) (boxes t) 1

-- 10 for a list of the wrong length, then 11 at the lowest index of an entry that is not 0 or 1, then 12 at the lowest box with a false hard clause
unfoldable pub list_fault : Hard → Side → Table → List ℕ → Option Refusal
list_fault h s t l =
    unless (eqb (length l) (variables t h s)) (Length (variables t h s)) then entries_fault l then boxes_fault h t l
