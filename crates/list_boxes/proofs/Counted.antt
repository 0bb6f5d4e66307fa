-- A box's hard clauses are true exactly if one of its variables is true and, on the regular part, its thresholds say the value found: both can be counted.
use mathlib.Core.Path.{◌≡◌, refl}
use mathlib.Core.Logic.{◌↔◌}
use Prim.Native.Nat.{ℕ, zero, suc, ◌+◌, ◌≤◌, ◌<◌, pred}
use native.Mathlib.Omega.{arith}
use mathlib.Core.Bool.{Bool, true, beq}
use mathlib.Core.List.{List}
use lib.Dec.{eqb, leb}
use borrow.Author.Tests.{eq-eqb, ne_eqb, eqb-true}
use Rattle.lists.proofs.Truth.{and_left, and_right, both, same, same_test, beq_exact}
use Rattle.lists.proofs.Runs.{all_at, at_all}
use Rattle.table.specs.Table.{Table, size}
use Rattle.clause.specs.declared.Hard.{Hard}
use Rattle.clause.specs.declared.Hard.TheVariants.{Standard, Regular}
use Rattle.clause.specs.Clause.{Reading, reads, all_true}
use Rattle.clause.specs.Numbers.{value_from, step_from, value_base_lem, step_base_lem}
use Rattle.clause.specs.Hard.{box_with, box_clauses}
use Rattle.clause.proofs.OneValue.{Holds, holds_exact}
use Rattle.clause.proofs.Boxes.{Steps, box_holds, holds_box}
use Rattle.list_boxes.specs.Lists.{box_ok_lem, held}
use Rattle.list_boxes.specs.Counted.{true_count_lem, steps_say_lem, counted_ok_lem}

-- the first true variable of a run in which that of a alone is true
held_from : (ν : Reading) (x : ℕ → ℕ) (s n a : ℕ) → s ≤ a → a < s + n → ((j : ℕ) → s ≤ j → j < s + n → ν (x j) ≡ eqb j a) → held ν x s n ≡ a
unfolding held
held_from ν x s zero a l h g = absurd (omega arith)
held_from ν x s (suc n) a l h g =
    same s a
    (λ q. rw (g s (omega arith) (omega arith), eq-eqb s a q) q)
    (λ q. rw (g s (omega arith) (omega arith), ne_eqb s a q)
    (held_from ν x (suc s) n a (omega arith) (omega arith) (λ j u v. g j (omega arith) (omega arith))))

-- the value that is found in a box is the one that it holds
pub held_is : {ν : Reading} {x : ℕ → ℕ} {m a : ℕ} → Holds ν x m a → held ν x 1 m ≡ a
held_is {ν} {x} {m} {a} H = held_from ν x 1 m a H.low (omega (arith, H.high)) (λ j u v. H.at j u (omega arith))

-- the test of the thresholds
steps_say_law : (h : Hard) (ν : Reading) (s m a : ℕ) → (steps_say_lem h ν s m a ≡ true) ↔ Steps h ν s m a
steps_say_law Standard ν s m a = (λ e. tt, λ C. refl)
steps_say_law Regular ν s m a =
    let says : ℕ → Bool = λ j. beq (ν (step_from s j)) (leb j a) in (
      λ e j l h. (beq_exact (ν (step_from s j)) (leb j a)).0 (all_at says 2 (pred m) e j l (omega arith)),
      λ C. at_all says 2 (pred m) (λ j l h. (beq_exact (ν (step_from s j)) (leb j a)).1 (C j l (omega arith))),
    )

-- for any numbers of the box's variables
box_counts : (h : Hard) (ν : Reading) (v s m : ℕ) → all_true ν (box_with h v s m) ≡ counted_ok_lem h ν v s m
unfolding counted_ok_lem
box_counts h ν v s m = same_test (all_true ν (box_with h v s m)) (counted_ok_lem h ν v s m) there back
  where
    there : all_true ν (box_with h v s m) ≡ true → counted_ok_lem h ν v s m ≡ true
    there e =
        let (a, H, C) = box_holds h ν v s m e in
        both (eq-eqb (true_count_lem ν (value_from v) m) 1 ((holds_exact ν (value_from v) m).1 (a, H))) (rw (held_is H) ((steps_say_law h ν s m a).1 C))

    back : counted_ok_lem h ν v s m ≡ true → all_true ν (box_with h v s m) ≡ true
    back e =
        let found = held ν (value_from v) 1 m in
        let one = eqb (true_count_lem ν (value_from v) m) 1 in
        let (a, H) = (holds_exact ν (value_from v) m).0 (eqb-true (true_count_lem ν (value_from v) m) 1 (and_left one (steps_say_lem h ν s m found) e)) in
        holds_box h ν v s m a H ((steps_say_law h ν s m a).0 (rw (held_is H) at (and_right one (steps_say_lem h ν s m found) e)))

-- LAW. A box is fine exactly if the count of its true variables is 1 and its thresholds say the value found.
pub box_counted : (h : Hard) (t : Table) (l : List ℕ) (b : ℕ) → box_ok_lem h t l b ≡ counted_ok_lem h (reads l) (value_base_lem t b) (step_base_lem t b) (size t b)
unfolding box_ok_lem box_clauses
box_counted h t l b = box_counts h (reads l) (value_base_lem t b) (step_base_lem t b) (size t b)
