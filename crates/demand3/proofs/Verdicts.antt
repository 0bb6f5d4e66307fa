-- Over an accepted table one of five verdicts holds for a list, and what the decoder says is the verdict's.
use Rattle.std.specs.Prelude.{Ok}
use mathlib.Core.Path.{◌≡◌, refl, sym, ◌∙◌, subst}
use mathlib.Core.Logic.{◌↔◌, ◌≢◌, ◌⊎◌, inl, inr, ⊎_elim}
use mathlib.Core.Bool.{true, false}
use mathlib.Core.List.{List, [], ◌∷◌}
use Prim.Native.Nat.{ℕ, ◌≤◌, ◌<◌}
use native.Mathlib.Omega.{arith}
use lib.ListN.{length, get_or}
use borrow.Author.Tests.{le-leb, lt-leb}
use Rattle.lists.specs.Lists.{Each}
use Rattle.lists.proofs.Truth.{test, clash, order, same}
use Rattle.lists.proofs.Lists.{at_each}
use Rattle.refusal.specs.Refusals.{Says, gives, refuses}
use Rattle.table.specs.Table.{Table, boxes, Sound}
use Rattle.table.specs.Words.{accepted}
use Rattle.plan.specs.Plan.{cost}
use Rattle.clause.specs.declared.Hard.{Hard}
use Rattle.clause.specs.declared.Side.{Side}
use Rattle.clause.specs.Clause.{reads, hard_true}
use Rattle.clause.specs.Numbers.{variables}
use Rattle.clause.specs.List.{clauses}
use Rattle.list_boxes.specs.Lists.{Bit, box_ok_lem}
use Rattle.list_judge.specs.Faults.{entry_fault, box_fault}
use Rattle.list_judge.proofs.Faults.{BoxesOk, entry_exact, box_exact, list_length}
use Rattle.decoder.specs.Lists.{plan_of}
use Rattle.decoder.specs.Answers.{decode_fault, decoded_of, decoded_says}
use Rattle.demand3.specs.Accepted.{Accepts, LowestEntry, LowestBroken}
use Rattle.lists.proofs.Search.{lowest}
use Rattle.demand3.proofs.HardClauses.{hard_boxes, boxes_hard}
use Rattle.demand3.proofs.Faults.{list_exact, list_entry, list_box}

-- what the decoder says of a list over an accepted table, lent a plan of `room` entries
abbrev pub decode_says : Hard → Side → Table → List ℕ → ℕ → Says
decode_says h s t l room = decoded_says (decoded_of (Ok (record { hard = h; side = s })) (accepted t) l room)

module _ (h : Hard) (s : Side) (t : Table) (S : Sound t) (l : List ℕ) (room : ℕ) where
  -- how many entries are wanted
  abbrev wanted : ℕ
  wanted = variables t h s

  abbrev Fine : Type 0
  Fine = Accepts h s t l

  -- the five verdicts, each with what is said
  pub data Verdict : Says → Type 0 where
    wrong_length : {place : ℕ} → length l ≢ wanted → place ≡ wanted → Verdict (refuses 10 place)
    wrong_entry : {place : ℕ} → length l ≡ wanted → LowestEntry l place → Verdict (refuses 11 place)
    wrong_box : {place : ℕ} → length l ≡ wanted → Each Bit l → LowestBroken h t l place → Verdict (refuses 12 place)
    no_room : {place : ℕ} → Fine → room < boxes t → place ≡ boxes t → Verdict (refuses 9 place)
    fine : {c : ℕ} → Fine → boxes t ≤ room → c ≡ cost t (plan_of t l) → Verdict (gives (c ∷ []))

  -- ---- one of them holds

  lowest_broken : BoxesOk h t l ⊎ ((b : ℕ) × LowestBroken h t l b)
  lowest_broken =
      ⊎_elim
      (λ g. inl (λ b i. g b i.0 (omega arith)))
      (λ w. inr w)
      (lowest (box_fault h t l) (λ b. box_ok_lem h t l b ≡ true) (box_exact h t l) (boxes t) 1)

  fits : Fine → (w : Says) × Verdict w
  fits A = order (boxes t) room (λ q. (_, fine A q refl)) (λ q. (_, no_room A q refl))

  judged_boxes : length l ≡ wanted → Each Bit l → (w : Says) × Verdict w
  judged_boxes n B =
      ⊎_elim (λ O. fits (record { long = n; bits = B; hard = boxes_hard h s t l S O })) (λ w. (_, wrong_box n B w.1)) lowest_broken

  judged_entries : length l ≡ wanted → (w : Says) × Verdict w
  judged_entries n =
      ⊎_elim
      (λ g. judged_boxes n (at_each Bit 0 l (λ i q. g i (omega arith) (omega arith))))
      (λ w. (_, wrong_entry n w.1))
      (lowest (entry_fault l) (λ i. Bit (get_or l i 0)) (entry_exact l) (length l) 0)

  pub some_verdict : (w : Says) × Verdict w
  some_verdict = same (length l) wanted judged_entries (λ d. (_, wrong_length d refl))

  -- ---- and what it says is said

  pub said : {w : Says} → Verdict w → decode_says h s t l room ≡ w
  unfolding decode_fault
  said (wrong_length d z) = rw (list_length h s t l d, z)
  said (wrong_entry n L) = rw (list_entry h s t l n L)
  said (wrong_box n B L) = rw (list_box h s t l n B L)
  said (no_room A q z) = rw ((list_exact h s t l S).1 A, lt-leb (boxes t) room q, z)
  said (fine A q z) = rw ((list_exact h s t l S).1 A, le-leb (boxes t) room q, z)

  pub exactly : (w : Says) → (decode_says h s t l room ≡ w) ↔ Verdict w
  exactly w = let (r, v) = some_verdict in (λ q. subst Verdict (sym (said v) ∙ q) v, said)

  -- ---- a hard clause of the list is false exactly if one of a box is

  pub breaks : {b : ℕ} → LowestBroken h t l b → hard_true (reads l) (clauses h s t) ≡ false
  breaks {b} L =
      test (hard_true (reads l) (clauses h s t)) (λ p. absurd (L.fails (hard_boxes h s t l p b (L.low, omega (arith, L.high))))) (λ p. p)

  pub broken : hard_true (reads l) (clauses h s t) ≡ false → (b : ℕ) × LowestBroken h t l b
  broken f = ⊎_elim (λ O. clash (boxes_hard h s t l S O) f) (λ w. w) lowest_broken
