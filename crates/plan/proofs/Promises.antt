-- Demand 1 for the cost, in document 01's terms: over an accepted table one of three verdicts holds, and what the answer says is the verdict's.
use mathlib.Core.Path.{◌≡◌, refl, sym, ◌∙◌, subst}
use mathlib.Core.Logic.Iff
use mathlib.Core.Logic.{◌↔◌, ◌≢◌}
use mathlib.Core.Option.{Option, some}
use mathlib.Core.List.{List, [], ◌∷◌}
use Prim.Native.Nat.{ℕ, ◌+◌, ◌<◌}
use native.Mathlib.Omega.{arith}
use lib.ListN.{length, get_or}
use Rattle.lists.specs.Firsts.{first_of}
use Rattle.lists.proofs.Truth.{order, same}
use Rattle.lists.proofs.Firsts.{each_first}
use Rattle.lists.proofs.Foremost.{Clear, First, nothing, something, first_run, first_is}
use Rattle.refusal.specs.declared.Refusal.{Refusal}
use Rattle.refusal.specs.declared.Refusal.TheVariants.{Entry}
use Rattle.refusal.specs.Refusals.{Says, gives, refuses, refusal_says}
use Rattle.table.specs.Table.{Table, boxes, size, In}
use Rattle.table.specs.Words.{refused, accepted, judged}
use Rattle.plan.specs.Plan.{IsPlan, LowestOut, cost, value_fault, plan_fault, costed_of, costed_says}
use Rattle.plan.proofs.Plans.{value_none, none_value, value_low, value_high, plan_short, plan_values, fine_plan, plan_fine}

-- what the cost of a plan over these words says
abbrev pub cost_says : List ℕ → List ℕ → Says
cost_says ws plan = costed_says (costed_of (judged ws) plan)

module _ (t : Table) (plan : List ℕ) where
  -- the three verdicts, each with what is said
  data Verdict : Says → Type 0 where
    short : {place : ℕ} → length plan ≢ boxes t → place ≡ boxes t → Verdict (refuses 10 place)
    out : {place : ℕ} → length plan ≡ boxes t → LowestOut t plan place → Verdict (refuses 11 place)
    fine : {c : ℕ} → IsPlan t plan → c ≡ cost t plan → Verdict (gives (c ∷ []))

  -- ---- one of them holds

  clear_plan : length plan ≡ boxes t → Clear (value_fault t plan) 0 (boxes t) → IsPlan t plan
  clear_plan e p = fine_plan t plan (plan_values t plan e ∙ each_first (value_fault t plan) (boxes t) 0 (λ i h. p (0 + i) (omega arith) (omega arith)))

  found_lowest : {i : ℕ} {r : Refusal} → i < boxes t → value_fault t plan i ≡ some r → Clear (value_fault t plan) 0 i → LowestOut t plan i
  found_lowest {i} h e p =
      record {
        inside = h;
        outside = λ d. let z : ◌≡◌ {A = ℕ} 0 1 = cc (none_value t plan i d) in omega arith;
        before = λ j u. value_none t plan j (p j (omega arith) u);
      }

  -- by what is found first; `First` puts no bound on its index, and where that lies past the last box all values are right
  seen : {o : Option Refusal} → length plan ≡ boxes t → First (value_fault t plan) 0 (boxes t) o → (s : Says) × Verdict s
  seen e (nothing p) = (_, fine (clear_plan e p) refl)
  seen e (something i g p) =
      order (boxes t) i (λ h. (_, fine (clear_plan e (λ j l u. p j l (omega arith))) refl)) (λ h. (_, out e (found_lowest h g p)))

  values_first : First (value_fault t plan) 0 (boxes t) (first_of (value_fault t plan) (λ i. i + 1) (boxes t) 0)
  values_first = first_run (boxes t) 0 (omega arith) (λ i l h. refl)

  holds : (s : Says) × Verdict s
  holds = same (length plan) (boxes t) (λ e. seen e values_first) (λ d. (_, short d refl))

  -- ---- and what it says is said

  value_out : (i : ℕ) → (In 1 (size t (i + 1)) (get_or plan i 0) → ⊥) → value_fault t plan i ≡ some (Entry i)
  value_out i d =
      order 1 (get_or plan i 0)
      (λ l. order (get_or plan i 0) (size t (i + 1)) (λ h. absurd (d (l, h))) (value_high t plan i l))
      (value_low t plan i)

  lowest_fault : {i : ℕ} → length plan ≡ boxes t → LowestOut t plan i → plan_fault t plan ≡ some (Entry i)
  lowest_fault {i} e L =
      plan_values t plan e
      ∙ first_is values_first L.inside (value_out i L.outside) (λ j l h. none_value t plan j (L.before j h))

  module _ (ws : List ℕ) (A : judged ws ≡ accepted t) where
    says : {s : Says} → Verdict s → cost_says ws plan ≡ s
    says (short d z) = rw (A, plan_short t plan d, z)
    says (out e L) = rw (A, lowest_fault e L)
    says (fine P z) = rw (A, plan_fine t plan P, z)

    exactly : (s : Says) → (cost_says ws plan ≡ s) ↔ Verdict s
    exactly s = let (r, v) = holds in (λ e. subst Verdict (sym (says v) ∙ e) v, says)

-- A table's refusal comes first, as the check says it.
pub cost_table : (ws plan : List ℕ) (f : Refusal) → judged ws ≡ refused f → cost_says ws plan ≡ refusal_says f
cost_table ws plan f e = rw e

-- Over an accepted table it refuses with 10 exactly if the plan has another length than there are boxes; the place is the length wanted.
pub cost_length : (ws plan : List ℕ) (t : Table) (place : ℕ) → judged ws ≡ accepted t
    → (cost_says ws plan ≡ refuses 10 place) ↔ ((length plan ≢ boxes t) × (place ≡ boxes t))
cost_length ws plan t place A = Iff.trans (exactly t plan ws A (refuses 10 place)) (λ v. elim v [ short d z ↦ (d, z) ], λ (d, z). short d z)

-- With 11 exactly if the length is right and the place is the lowest index of a value outside its box's domain.
pub cost_entry : (ws plan : List ℕ) (t : Table) (place : ℕ) → judged ws ≡ accepted t
    → (cost_says ws plan ≡ refuses 11 place) ↔ ((length plan ≡ boxes t) × LowestOut t plan place)
cost_entry ws plan t place A = Iff.trans (exactly t plan ws A (refuses 11 place)) (λ v. elim v [ out e L ↦ (e, L) ], λ (e, L). out e L)

-- And it gives a cost exactly if this is a plan; the cost is the sum of the weights of the broken pairs.
pub cost_gives : (ws plan : List ℕ) (t : Table) (c : ℕ) → judged ws ≡ accepted t
    → (cost_says ws plan ≡ gives (c ∷ [])) ↔ (IsPlan t plan × (c ≡ cost t plan))
cost_gives ws plan t c A = Iff.trans (exactly t plan ws A (gives (c ∷ []))) (λ v. elim v [ fine P z ↦ (P, z) ], λ (P, z). fine P z)
