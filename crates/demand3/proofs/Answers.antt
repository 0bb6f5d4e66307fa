-- Demand 3, sentence by sentence, from the answers and the lent buffers that decode, make_list and cost ensure: for any accepted table, any of the
-- ten encodings, any list, and buffers of the length that is needed.
use Rattle.refusal.proofs.Results.{result_ok}
use Rattle.std.specs.Prelude.{Result, Ok}
use mathlib.Core.Path.{◌≡◌, refl, sym, ap, subst, ◌∙◌}
use mathlib.Core.Logic.{◌↔◌}
use mathlib.Core.Bool.{true}
use mathlib.Core.List.{List}
use mathlib.Core.Option.{none}
use Prim.Native.Nat.{ℕ, ◌≤◌}
use native.Mathlib.Omega.{arith}
use lib.ListN.{length}
use lib.Seq.{sets, take_all, length-sets}
use lib.Dec.{eqb}
use borrow.Author.Tests.{le-leb, eqb-true, eq-eqb}
use Rattle.lists.specs.Lists.{nth, Each}
use Rattle.refusal.specs.declared.Refusal.{Refusal}
use Rattle.table.specs.Table.{Table, boxes, size, In, Sound}
use Rattle.table.specs.Words.{accepted, judged}
use Rattle.table.proofs.Round.{accepted_sound}
use Rattle.plan.specs.Plan.{IsPlan, cost, plan_fault, costed_of}
use Rattle.plan.proofs.Plans.{fine_plan, plan_fine}
use Rattle.clause.specs.declared.Encoding.{Encoding}
use Rattle.clause.specs.Encodings.{picked_of}
use Rattle.clause.specs.Clause.{Weighted, reads, falsified, hard_true}
use Rattle.clause.specs.Numbers.{x, variables}
use Rattle.clause.specs.List.{clauses}
use Rattle.list_boxes.specs.Lists.{Bit}
use Rattle.list_judge.specs.Faults.{list_fault}
use Rattle.decoder.specs.Lists.{plan_of, made}
use Rattle.decoder.specs.Answers.{decode_fault, decoded_of, plan_after, make_fault, made_of, list_after}
use Rattle.lists.proofs.Stores.{sets_begins}
use Rattle.lists.proofs.Search.{then_exact}
use Rattle.decoder.proofs.Judged.{answer_fine}
use Rattle.decoder.proofs.PlanOfList.{plan_long}
use Rattle.maker.proofs.Long.{made_long}
use Rattle.demand3.specs.Accepted.{Accepts}
use Rattle.demand3.proofs.Demand3 as demand3
use contract.Lifetimes.{Lfts}
use Rattle.decoder.proofs.decode.Reads as decode
use Rattle.maker.proofs.make_list.Reads as make_list_lem
use Rattle.plan.proofs.cost.Reads as cost-of

-- ---- what a call ensures: the answer, and the lent buffer after it

module _ (ws : List ℕ) (hard side : ℕ) where
  -- decode(words, hard, side, list, plan), where the lent plan held `old` and holds `new`
  abbrev pub Decodes : (l old : List ℕ) → Result ℕ Refusal → (new : List ℕ) → Type 0
  Decodes l old r new =
      (r ≡ decoded_of (picked_of hard side) (judged ws) l (length old)) × (new ≡ plan_after (picked_of hard side) (judged ws) l old)

  -- make_list(words, hard, side, plan, list), where the lent list held `old` and holds `new`
  abbrev pub Makes : (plan old : List ℕ) → Result ℕ Refusal → (new : List ℕ) → Type 0
  Makes plan old r new =
      (r ≡ made_of (picked_of hard side) (judged ws) plan (length old)) × (new ≡ list_after (picked_of hard side) (judged ws) plan old)

-- cost(words, plan)
abbrev pub Costs : (ws plan : List ℕ) → Result ℕ Refusal → Type 0
Costs ws plan r = r ≡ costed_of (judged ws) plan

-- This is what the code ensures, word for word: a and s are what a call is handed and what it leaves, in the order of the arguments.

pub decode_ensures : (κs : Lfts 3) (a : _) (r : _) (s : _) → decode.Post κs a r s
    → Decodes a.0.now a.1.0 a.1.1.0 a.1.1.1.0.now a.1.1.1.1.0.now r s.1.1.1.1.0.now
decode_ensures κs a r s p = p

pub make_list_ensures : (κs : Lfts 3) (a : _) (r : _) (s : _) → make_list_lem.Post κs a r s
    → Makes a.0.now a.1.0 a.1.1.0 a.1.1.1.0.now a.1.1.1.1.0.now r s.1.1.1.1.0.now
make_list_ensures κs a r s p = p

pub cost_ensures : (κs : Lfts 2) (a : _) (r : _) (s : _) → cost-of.Post κs a r s → Costs a.0.now a.1.0.now r
cost_ensures κs a r s p = p

-- ---- what stands in a buffer that was just long enough, and what a success says

whole : (vs old : List ℕ) → length vs ≡ length old → sets old 0 vs ≡ vs
whole vs old e =
    sym (take_all (length old) (sets old 0 vs) (omega (arith, length-sets old 0 vs))) ∙ sets_begins vs old (length old) e (omega arith)

module _ (ws : List ℕ) (t : Table) (A : judged ws ≡ accepted t) (hard side : ℕ) (e : Encoding) (K : picked_of hard side ≡ Ok e) where
  -- the clause list, and how many variables it has
  abbrev pub Clauses : List Weighted
  Clauses = clauses e.hard e.side t

  abbrev pub Variables : ℕ
  Variables = variables t e.hard e.side

  S : Sound t
  S = accepted_sound ws t A

  -- a list that was answered with a cost is accepted, and the answer is its plan's cost
  decoded : (l old : List ℕ) {c : ℕ} {new : List ℕ} → Decodes ws hard side l old (Ok c) new
      → Accepts e.hard e.side t l × (c ≡ cost t (plan_of t l))
  unfolding decode_fault
  decoded l old (p, q) =
      let (o, z) = result_ok (decode_fault e t l (length old)) (cost t (plan_of t l)) (sym (rw (K, A) at p)) in
      ((demand3.accepted_exactly e.hard e.side t S l).0 ((then_exact (list_fault e.hard e.side t l) _).0 o).0, sym z)

  no_fault : (l old : List ℕ) → length old ≡ boxes t → Accepts e.hard e.side t l → decode_fault e t l (length old) ≡ none
  no_fault l old n P = answer_fine e t l (length old) ((demand3.accepted_exactly e.hard e.side t S l).1 P) (omega (arith, n))

  planned : (l old new : List ℕ) {r : Result ℕ Refusal} → length old ≡ boxes t → Accepts e.hard e.side t l → Decodes ws hard side l old r new
      → (r ≡ Ok (cost t (plan_of t l))) × (new ≡ plan_of t l)
  planned l old new n P (p, q) = (
    rw (K, A, no_fault l old n P) at p,
    (rw (K, A, no_fault l old n P) at q) ∙ whole (plan_of t l) old (plan_long t l ∙ sym n),
  )

  -- 1. decode answers with a cost exactly if the list has an entry for each variable, each of them 0 or 1, and every hard clause is true.
  pub answers_cost : (l old new : List ℕ) (r : Result ℕ Refusal) → length old ≡ boxes t → Decodes ws hard side l old r new
      → ((c : ℕ) × (r ≡ Ok c)) ↔ ((length l ≡ Variables) × Each Bit l × (hard_true (reads l) Clauses ≡ true))
  answers_cost l old new r n D = (
    λ (c, z). let P = (decoded l old (subst (λ (y : Result ℕ Refusal). Decodes ws hard side l old y new) z D)).0 in (P.long, P.bits, P.hard),
    λ (long, bits, hard). (_, (planned l old new n (record { long = long; bits = bits; hard = hard }) D).0),
  )

  -- 2. Then the lent plan holds one slot a box: the value whose variable is one, and the only such value.
  pub answers_plan : (l old new : List ℕ) (c : ℕ) → length old ≡ boxes t → Decodes ws hard side l old (Ok c) new
      → IsPlan t new × ((b j : ℕ) → In 1 (boxes t) b → In 1 (size t b) j → (nth l (x t b j) ≡ 1) ↔ (j ≡ nth new b))
  answers_plan l old new c n D =
      let P = (decoded l old D).0 in
      let z = (planned l old new n P D).1 in
      let v = demand3.value_of_accepted e.hard e.side t S l P in (
        subst (IsPlan t) (sym z) (demand3.plan_of_accepted e.hard e.side t S l P),
        λ b j i k. (
          λ o. eqb-true _ _ (ap (λ (plan : List ℕ). eqb j (nth plan b)) z ∙ sym (v b j i k) ∙ eq-eqb _ _ o),
          λ o. eqb-true _ _ (v b j i k ∙ eq-eqb _ _ (o ∙ ap (λ (plan : List ℕ). nth plan b) z)),
        ),
      )

  -- 3. And the cost is the weight of the soft clauses that the list falsifies. (A hard clause weighs 0.)
  pub answers_weight : (l old new : List ℕ) (c : ℕ) → Decodes ws hard side l old (Ok c) new → c ≡ falsified (reads l) Clauses
  answers_weight l old new c D =
      let (P, z) = decoded l old D in
      z ∙ demand3.cost_of_accepted e.hard e.side t S l P

  -- the list that make_list leaves in a buffer of the right length
  listed : (plan old list : List ℕ) {r : Result ℕ Refusal} → IsPlan t plan → length old ≡ Variables → Makes ws hard side plan old r list
      → (r ≡ Ok Variables) × (list ≡ made e.hard e.side t plan)
  unfolding make_fault
  listed plan old list P n (p, q) =
      let fine : make_fault e t plan (length old) ≡ none = rw (plan_fine t plan P, le-leb Variables (length old) (omega (arith, n))) in (
        rw (K, A, fine) at p,
        (rw (K, A, fine) at q) ∙ whole (made e.hard e.side t plan) old (made_long t plan e.hard e.side ∙ sym n),
      )

  -- 4. Every plan within its domains comes from an accepted list: make_list answers with its length and leaves one, and decode turns that list into
  -- the plan and its cost.
  pub answers_list : (plan old list : List ℕ) (r : Result ℕ Refusal) → IsPlan t plan → length old ≡ Variables → Makes ws hard side plan old r list
      → (r ≡ Ok Variables)
      × ((before new : List ℕ) (d : Result ℕ Refusal) → length before ≡ boxes t → Decodes ws hard side list before d new
      → (d ≡ Ok (cost t plan)) × (new ≡ plan))
  answers_list plan old list r P n M =
      let (w, is) = listed plan old list P n M in
      let (Q, same) = demand3.list_of_plan e.hard e.side t S plan P in
      let back : plan_of t list ≡ plan = ap (plan_of t) is ∙ same in (
        w,
        λ before new d m D.
            let (p, q) = planned list before new m (subst (Accepts e.hard e.side t) (sym is) Q) D in
            (p ∙ ap (λ (l : List ℕ). Ok (cost t l)) back, q ∙ back),
      )

  -- 5. Where no list that decode answers with a cost has a smaller falsified weight, the plan that decode leaves costs what it answers, and no plan
  -- that cost takes is cheaper.
  pub answers_least : (l old new : List ℕ) (c : ℕ) → length old ≡ boxes t → Decodes ws hard side l old (Ok c) new
      → ((k before after : List ℕ) (d : ℕ) → length before ≡ boxes t → Decodes ws hard side k before (Ok d) after
      → falsified (reads l) Clauses ≤ falsified (reads k) Clauses)
      → Costs ws new (Ok c) × ((plan : List ℕ) (d : ℕ) → Costs ws plan (Ok d) → c ≤ d)
  answers_least l old new c n D least =
      let (P, z) = decoded l old D in
      let (_, is) = planned l old new n P D in
      let others : (k : List ℕ) → Accepts e.hard e.side t k → falsified (reads l) Clauses ≤ falsified (reads k) Clauses =
      λ k Q. least k old _ (cost t (plan_of t k)) n (sym (planned k old _ n Q (refl, refl)).0, refl) in (
        rw (A, is, plan_fine t (plan_of t l) (demand3.plan_of_accepted e.hard e.side t S l P), z),
        λ plan d C.
            let (o, y) = result_ok (plan_fault t plan) (cost t plan) (sym (rw A at C)) in
            omega (arith, z, y, demand3.least_list e.hard e.side t S l P others plan (fine_plan t plan o)),
      )
