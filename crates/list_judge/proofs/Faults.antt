-- What is wrong with a list first, part by part: each search finds nothing exactly if its part is in order.
use mathlib.Core.Path.{◌≡◌}
use mathlib.Core.Logic.Iff
use mathlib.Core.Logic.{◌↔◌, ◌≢◌}
use mathlib.Core.Bool.{true}
use mathlib.Core.Option.{none, some}
use mathlib.Core.List.{List}
use Prim.Native.Nat.{ℕ}
use native.Mathlib.Omega.{arith}
use lib.ListN.{length, get_or}
use lib.Dec.{leb, eqb}
use borrow.Author.Tests.{leb-true, le-leb, ne_eqb}
use Rattle.lists.specs.Firsts.{◌then◌, unless}
use Rattle.lists.proofs.Search.{unless_exact, then_exact, clear_exact}
use Rattle.refusal.specs.declared.Refusal.TheVariants.{Length, Entry, Broken}
use Rattle.table.specs.Table.{Table, boxes, In}
use Rattle.clause.specs.declared.Hard.{Hard}
use Rattle.clause.specs.declared.Side.{Side}
use Rattle.clause.specs.Numbers.{variables}
use Rattle.list_boxes.specs.Lists.{Bit, box_ok_lem}
use Rattle.list_judge.specs.Faults.{entry_fault, entries_fault, box_fault, boxes_fault, list_fault}

-- ---- 11

pub entry_exact : (l : List ℕ) (i : ℕ) → (entry_fault l i ≡ none) ↔ Bit (get_or l i 0)
unfolding entry_fault
entry_exact l i = Iff.trans (unless_exact (leb (get_or l i 0) 1) (Entry i)) (leb-true (get_or l i 0) 1, le-leb (get_or l i 0) 1)

-- ---- 12

-- every hard clause of every box is true
abbrev pub BoxesOk : Hard → Table → List ℕ → Type 0
BoxesOk h t l = (b : ℕ) → In 1 (boxes t) b → box_ok_lem h t l b ≡ true

module _ (h : Hard) (t : Table) (l : List ℕ) where
  pub box_exact : (b : ℕ) → (box_fault h t l b ≡ none) ↔ (box_ok_lem h t l b ≡ true)
  unfolding box_fault
  box_exact b = unless_exact (box_ok_lem h t l b) (Broken b)

  pub boxes_exact : (boxes_fault h t l ≡ none) ↔ BoxesOk h t l
  boxes_exact =
      Iff.trans (clear_exact (box_fault h t l) (λ b. box_ok_lem h t l b ≡ true) box_exact (boxes t) 1)
      (λ g b i. g b i.0 (omega arith), λ O b u v. O b (u, omega arith))

-- ---- the list

module _ (h : Hard) (s : Side) (t : Table) (l : List ℕ) where
  pub list_length : length l ≢ variables t h s → list_fault h s t l ≡ some (Length (variables t h s))
  unfolding list_fault
  list_length d = rw (ne_eqb (length l) (variables t h s) d)

  -- a list with which nothing is wrong breaks no box
  pub fine_boxes : list_fault h s t l ≡ none → BoxesOk h t l
  unfolding list_fault
  fine_boxes e =
      let rest = ((then_exact (unless (eqb (length l) (variables t h s)) (Length (variables t h s))) (entries_fault l then boxes_fault h t l)).0 e).1 in
      (boxes_exact h t l).0 ((then_exact (entries_fault l) (boxes_fault h t l)).0 rest).1
