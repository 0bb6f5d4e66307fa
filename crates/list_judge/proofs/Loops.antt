-- What the two loops meet first.
use mathlib.Core.Path.{◌≡◌}
use mathlib.Core.Bool.{true, false}
use mathlib.Core.Option.{none, some}
use mathlib.Core.List.{List}
use Prim.Native.Nat.{ℕ, ◌+◌, ◌-◌, ◌≤◌, ◌<◌}
use lib.ListN.{get_or}
use borrow.Author.Tests.{lt-leb, le-leb}
use Rattle.lists.specs.Firsts.{first_of}
use Rattle.lists.proofs.Firsts.{first_found}
use Rattle.refusal.specs.declared.Refusal.TheVariants.{Entry, Broken}
use Rattle.table.specs.Table.{Table}
use Rattle.clause.specs.declared.Hard.{Hard}
use Rattle.list_boxes.specs.Lists.{box_ok_lem}
use Rattle.list_judge.specs.Faults.{entry_fault, box_fault}

pub entry_wrong : (l : List ℕ) (i : ℕ) → 1 < get_or l i 0 → entry_fault l i ≡ some (Entry i)
unfolding entry_fault
entry_wrong l i h = rw (lt-leb (get_or l i 0) 1 h)

pub entry_fine : (l : List ℕ) (i : ℕ) → get_or l i 0 ≤ 1 → entry_fault l i ≡ none
unfolding entry_fault
entry_fine l i h = rw (le-leb (get_or l i 0) 1 h)

-- of the boxes from b to n - 1
pub box_found : (h : Hard) (t : Table) (l : List ℕ) (n b : ℕ) → b < n → box_ok_lem h t l b ≡ false
    → first_of (box_fault h t l) (λ k. k + 1) (n - b) b ≡ some (Broken b)
unfolding box_fault
box_found h t l n b u e = first_found (box_fault h t l) (λ k. k + 1) n b b u (rw e)

pub box_fine : (h : Hard) (t : Table) (l : List ℕ) (b : ℕ) → box_ok_lem h t l b ≡ true → box_fault h t l b ≡ none
unfolding box_fault
box_fine h t l b e = rw e
