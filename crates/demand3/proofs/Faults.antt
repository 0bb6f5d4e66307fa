-- Nothing is wrong with a list exactly if it is accepted, and else what stands at the lowest place.
use mathlib.Core.Path.{◌≡◌}
use mathlib.Core.Logic.Iff
use mathlib.Core.Logic.{◌↔◌}
use mathlib.Core.Bool.{true}
use mathlib.Core.Option.{none, some}
use mathlib.Core.List.{List}
use Prim.Native.Nat.{ℕ}
use native.Mathlib.Omega.{arith}
use lib.ListN.{length, get_or}
use lib.Dec.{leb, eqb}
use borrow.Author.Tests.{leb-true, eqb-true, eq-eqb}
use Rattle.lists.specs.Lists.{Each}
use Rattle.lists.specs.Firsts.{◌then◌, unless}
use Rattle.lists.proofs.Lists.{at_each, each_at}
use Rattle.refusal.specs.declared.Refusal.TheVariants.{Length, Entry, Broken}
use Rattle.table.specs.Table.{Table, boxes, Sound}
use Rattle.clause.specs.declared.Hard.{Hard}
use Rattle.clause.specs.declared.Side.{Side}
use Rattle.clause.specs.Numbers.{variables}
use Rattle.list_boxes.specs.Lists.{Bit, box_ok_lem}
use Rattle.list_judge.specs.Faults.{entry_fault, entries_fault, box_fault, boxes_fault, list_fault}
use Rattle.list_judge.proofs.Faults.{BoxesOk, entry_exact, box_exact, boxes_exact}
use Rattle.demand3.specs.Accepted.{Accepts, LowestEntry, LowestBroken}
use Rattle.lists.proofs.Search.{unless_exact, unless_fails, then_exact, clear_exact, lowest_found}
use Rattle.demand3.proofs.HardClauses.{hard_boxes, boxes_hard}

-- ---- 11

module _ (l : List ℕ) where
  pub entries_exact : (entries_fault l ≡ none) ↔ Each Bit l
  entries_exact =
      Iff.trans (clear_exact (entry_fault l) (λ i. Bit (get_or l i 0)) (entry_exact l) (length l) 0)
      (λ g. at_each Bit 0 l (λ i h. g i (omega arith) (omega arith)), λ E i u h. each_at Bit 0 l E i (omega arith))

  entries_found_lem : {i : ℕ} → LowestEntry l i → entries_fault l ≡ some (Entry i)
  unfolding entry_fault
  entries_found_lem {i} L =
      rw (lowest_found (entry_fault l) (λ i. Bit (get_or l i 0)) (entry_exact l) (length l) 0 i L)
      (unless_fails (leb (get_or l i 0) 1) (Entry i) (λ e. L.fails (leb-true (get_or l i 0) 1 e)))

-- ---- 12

module _ (h : Hard) (t : Table) (l : List ℕ) where
  boxes_found : {b : ℕ} → LowestBroken h t l b → boxes_fault h t l ≡ some (Broken b)
  unfolding box_fault
  boxes_found {b} L =
      rw (lowest_found (box_fault h t l) (λ b. box_ok_lem h t l b ≡ true) (box_exact h t l) (boxes t) 1 b L) (unless_fails (box_ok_lem h t l b) (Broken b) L.fails)

-- ---- the list

module _ (h : Hard) (s : Side) (t : Table) (l : List ℕ) where
  length_exact : (unless (eqb (length l) (variables t h s)) (Length (variables t h s)) ≡ none) ↔ (length l ≡ variables t h s)
  length_exact =
      Iff.trans (unless_exact (eqb (length l) (variables t h s)) (Length (variables t h s)))
      (eqb-true (length l) (variables t h s), eq-eqb (length l) (variables t h s))

  rest_exact : ((entries_fault l then boxes_fault h t l) ≡ none) ↔ (Each Bit l × BoxesOk h t l)
  rest_exact = Iff.trans (then_exact (entries_fault l) (boxes_fault h t l)) (Iff.and (entries_exact l) (boxes_exact h t l))

  -- nothing is wrong with a list exactly if it is accepted
  pub list_exact : Sound t → (list_fault h s t l ≡ none) ↔ Accepts h s t l
  unfolding list_fault
  list_exact S =
      Iff.trans (then_exact (unless (eqb (length l) (variables t h s)) (Length (variables t h s))) _)
      (Iff.trans (Iff.and length_exact rest_exact)
      (λ (n, (B, O)). record { long = n; bits = B; hard = boxes_hard h s t l S O }, λ A. (A.long, (A.bits, hard_boxes h s t l A.hard))))

  pub list_entry : {i : ℕ} → length l ≡ variables t h s → LowestEntry l i → list_fault h s t l ≡ some (Entry i)
  unfolding list_fault
  list_entry n L = rw (eq-eqb (length l) (variables t h s) n, entries_found_lem l L)

  pub list_box : {b : ℕ} → length l ≡ variables t h s → Each Bit l → LowestBroken h t l b → list_fault h s t l ≡ some (Broken b)
  unfolding list_fault
  list_box n B L = rw (eq-eqb (length l) (variables t h s) n, (entries_exact l).1 B, boxes_found h t l L)
