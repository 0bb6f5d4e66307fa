-- Demand 3, sentence by sentence, for every sound table, both hard parts and all five sides: accepted lists and plans say the same, at the same price.
use Rattle.std.specs.Prelude.{Result, Ok, Err, cond}
use Rattle.clause.specs.Encodings.{picked_of, hard_of, side_of, both_of}
use mathlib.Core.Path.{◌≡◌, refl, sym, ap, ◌∙◌}
use mathlib.Core.Logic.Iff
use mathlib.Core.Logic.{◌↔◌, ◌≢◌}
use mathlib.Core.Bool.{Bool, true, false}
use mathlib.Core.Option.{none}
use mathlib.Core.List.{List, [], ◌∷◌}
use Prim.Native.Nat.{ℕ, ◌≤◌, ◌<◌}
use native.Mathlib.Omega.{arith}
use lib.ListN.{length, take}
use lib.Dec.{eqb}
use borrow.Author.Tests.{le-leb}
use Rattle.lists.specs.Lists.{nth, Each}
use Rattle.refusal.specs.declared.Refusal.{Refusal}
use Rattle.refusal.specs.declared.Refusal.TheVariants.{Choice}
use Rattle.refusal.specs.Refusals.{gives, refuses, refusal_says}
use Rattle.refusal.proofs.Results.{result_ok}
use Rattle.table.specs.Table.{Table, boxes, size, In, Sound}
use Rattle.table.specs.Words.{Outcome, refused, accepted}
use Rattle.plan.specs.Plan.{IsPlan, cost}
use Rattle.clause.specs.declared.Hard.{Hard}
use Rattle.clause.specs.declared.Side.{Side}
use Rattle.clause.specs.declared.Encoding.{Encoding}
use Rattle.clause.specs.Clause.{reads, falsified, hard_true}
use Rattle.clause.specs.Numbers.{switches, x, c, variables}
use Rattle.clause.specs.List.{clauses}
use Rattle.list_boxes.specs.Lists.{Bit}
use Rattle.list_judge.specs.Faults.{list_fault}
use Rattle.decoder.specs.Lists.{plan_of, made}
use Rattle.decoder.specs.Answers.{decode_fault, decoded_of, plan_after, decoded_says}
use Rattle.demand3.specs.Accepted.{Accepts, LowestEntry, LowestBroken}
use Rattle.lists.proofs.Stores.{sets_begins}
use Rattle.lists.proofs.Search.{then_exact}
use Rattle.decoder.proofs.PlanOfList.{plan_long, fits_plan}
use Rattle.demand3.proofs.HardClauses.{accepted_fits, fits_cost}
use Rattle.demand3.proofs.ListOfPlan.{made_switch, made_accepted, made_plan}
use Rattle.demand3.proofs.Faults.{list_exact}
use Rattle.demand3.proofs.Verdicts.{decode_says, wrong_length, wrong_entry, wrong_box, no_room, fine, exactly, breaks, broken}

-- A table that the check accepts is sound: `accepted-sound` of the table crate.
module _ (h : Hard) (s : Side) (t : Table) (S : Sound t) where
  -- ---- 1. A list of the right length, of zeros and ones, is accepted exactly if every hard clause of the clause list is true.

  pub accepted_exactly : (l : List ℕ) → (list_fault h s t l ≡ none) ↔ Accepts h s t l
  accepted_exactly l = list_exact h s t l S

  -- Given room for the plan, the decoder answers with a cost exactly then,
  pub decodes_exactly : (l : List ℕ) (room : ℕ) → boxes t ≤ room
      → ((c : ℕ) × (decoded_of (Ok (record { hard = h; side = s })) (accepted t) l room ≡ Ok c)) ↔ Accepts h s t l
  unfolding decode_fault
  decodes_exactly l room q = (
    λ w. (accepted_exactly l).0 ((then_exact (list_fault h s t l) _).0 ((result_ok _ (cost t (plan_of t l)) w.1).0)).0,
    λ A. (cost t (plan_of t l), rw ((accepted_exactly l).1 A, le-leb (boxes t) room q)),
  )

  -- and then the lent plan begins with the list's plan.
  pub decodes_plan : (l old : List ℕ) → Accepts h s t l → boxes t ≤ length old
      → take (boxes t) (plan_after (Ok (record { hard = h; side = s })) (accepted t) l old) ≡ plan_of t l
  unfolding decode_fault
  decodes_plan l old A q = rw ((accepted_exactly l).1 A, le-leb (boxes t) (length old) q) (sets_begins (plan_of t l) old (boxes t) (plan_long t l) q)

  -- ---- 2. An accepted list decodes to a plan, one value a box:

  pub plan_of_accepted : (l : List ℕ) → Accepts h s t l → IsPlan t (plan_of t l)
  plan_of_accepted l A = fits_plan t l (accepted_fits h s t l A)

  -- that whose variable is 1, and it is the only one.
  pub value_of_accepted : (l : List ℕ) → Accepts h s t l
      → (b j : ℕ) → In 1 (boxes t) b → In 1 (size t b) j → reads l (x t b j) ≡ eqb j (nth (plan_of t l) b)
  value_of_accepted l A b j i (u, v) = (accepted_fits h s t l A b i).at j u v

  -- ---- 3. The cost of that plan is the weight of the soft clauses that the list falsifies. (A hard clause weighs 0.)

  pub cost_of_accepted : (l : List ℕ) → Accepts h s t l → cost t (plan_of t l) ≡ falsified (reads l) (clauses h s t)
  cost_of_accepted l A = sym (fits_cost h s t l (plan_of t l) S (accepted_fits h s t l A))

  -- ---- 4. Every plan comes from an accepted list, and the list made from it is one.

  pub list_of_plan : (plan : List ℕ) → IsPlan t plan → Accepts h s t (made h s t plan) × (plan_of t (made h s t plan) ≡ plan)
  list_of_plan plan P = (made_accepted t plan h s S P, made_plan t plan h s P)

  -- The list maker sets every c_k to 0.
  pub switch_of_plan : (plan : List ℕ) (k : ℕ) → In 1 (switches t s) k → nth (made h s t plan) (c t h k) ≡ 0
  switch_of_plan plan k i = made_switch t plan h s k i

  -- so the made list falsifies what its plan costs
  cost_of_made : (plan : List ℕ) → IsPlan t plan → cost t plan ≡ falsified (reads (made h s t plan)) (clauses h s t)
  cost_of_made plan P = let (A, e) = list_of_plan plan P in ap (cost t) (sym e) ∙ cost_of_accepted (made h s t plan) A

  -- ---- 5. An accepted list of least falsified weight decodes to a plan that no plan beats.

  pub least_list : (l : List ℕ) → Accepts h s t l
      → ((k : List ℕ) → Accepts h s t k → falsified (reads l) (clauses h s t) ≤ falsified (reads k) (clauses h s t))
      → (plan : List ℕ) → IsPlan t plan → cost t (plan_of t l) ≤ cost t plan
  least_list l A least plan P =
      let q = least (made h s t plan) (list_of_plan plan P).0 in
      omega (arith, cost_of_accepted l A, cost_of_made plan P)

  -- And the other way round: the list made from a plan that no plan beats has the least falsified weight.
  pub least_plan : (plan : List ℕ) → IsPlan t plan → ((other : List ℕ) → IsPlan t other → cost t plan ≤ cost t other)
      → (k : List ℕ) → Accepts h s t k → falsified (reads (made h s t plan)) (clauses h s t) ≤ falsified (reads k) (clauses h s t)
  least_plan plan P least k A =
      let q = least (plan_of t k) (plan_of_accepted k A) in
      omega (arith, cost_of_accepted k A, cost_of_made plan P)

  -- ---- 6. The refusals of a list, in their order; `room` is the length of the lent plan.

  module _ (l : List ℕ) (room : ℕ) where
    -- 10: a list of the wrong length; place: the length wanted.
    pub refuses_length : (place : ℕ) → (decode_says h s t l room ≡ refuses 10 place) ↔ ((length l ≢ variables t h s) × (place ≡ variables t h s))
    refuses_length place = Iff.trans (exactly h s t S l room (refuses 10 place)) (λ v. elim v [ wrong_length d z ↦ (d, z) ], λ (d, z). wrong_length d z)

    -- 11: a list entry not 0 or 1; place: the lowest index.
    pub refuses_entry : (place : ℕ) → (decode_says h s t l room ≡ refuses 11 place) ↔ ((length l ≡ variables t h s) × LowestEntry l place)
    refuses_entry place = Iff.trans (exactly h s t S l room (refuses 11 place)) (λ v. elim v [ wrong_entry n L ↦ (n, L) ], λ (n, L). wrong_entry n L)

    -- 12: a list breaks a hard clause; place: the lowest such box.
    pub refuses_box : (place : ℕ)
        → (decode_says h s t l room ≡ refuses 12 place) ↔ ((length l ≡ variables t h s) × Each Bit l × LowestBroken h t l place)
    refuses_box place = Iff.trans (exactly h s t S l room (refuses 12 place)) (λ v. elim v [ wrong_box n B L ↦ (n, B, L) ], λ (n, B, L). wrong_box n B L)

    -- There is such a box exactly if a hard clause of the clause list is false.
    pub refuses_broken : ((place : ℕ) × (decode_says h s t l room ≡ refuses 12 place))
        ↔ ((length l ≡ variables t h s) × Each Bit l × (hard_true (reads l) (clauses h s t) ≡ false))
    refuses_broken = (
      λ w. let (n, B, L) = (refuses_box w.0).0 w.1 in (n, B, breaks h s t S l room L),
      λ (n, B, f). let (b, L) = broken h s t S l room f in (b, (refuses_box b).1 (n, B, L)),
    )

    -- 9: the lent plan is too short; place: the length needed.
    pub refuses_room : (place : ℕ) → (decode_says h s t l room ≡ refuses 9 place) ↔ (Accepts h s t l × (room < boxes t) × (place ≡ boxes t))
    refuses_room place = Iff.trans (exactly h s t S l room (refuses 9 place)) (λ v. elim v [ no_room A q z ↦ (A, q, z) ], λ (A, q, z). no_room A q z)

    -- Else success gives the cost.
    pub gives_cost : (c : ℕ) → (decode_says h s t l room ≡ gives (c ∷ [])) ↔ (Accepts h s t l × (boxes t ≤ room) × (c ≡ cost t (plan_of t l)))
    gives_cost c = Iff.trans (exactly h s t S l room (gives (c ∷ []))) (λ v. elim v [ fine A q z ↦ (A, q, z) ], λ (A, q, z). fine A q z)

-- Before them stand 8, place 0, for an unknown hard part or side,
pub refuses_choice : (o : Outcome) (l : List ℕ) (room : ℕ) → decoded_says (decoded_of (Err Choice) o l room) ≡ refuses 8 0
refuses_choice o l room = refl

-- No other error is made of the two numbers, so these words are those of every unknown encoding.
step : {A : Type 0} (b : Bool) (x : A) (r : Result A Refusal) {f : Refusal} → (r ≡ Err f → f ≡ Choice) → cond b (Ok x) r ≡ Err f → f ≡ Choice
step true x r k e = cc
step false x r k e = k e

pub unknown_choice : (h n : ℕ) {f : Refusal} → picked_of h n ≡ Err f → f ≡ Choice
unfolding picked_of
unknown_choice h n {f} = by (hard_of h) (side_of n) (step (eqb h 0) _ _ (step (eqb h 1) _ _ last))
    (step (eqb n 1) _ _ (step (eqb n 2) _ _ (step (eqb n 3) _ _ (step (eqb n 4) _ _ (step (eqb n 5) _ _ last)))))
  where
    last : {A : Type 0} → ◌≡◌ {A = Result A Refusal} (Err Choice) (Err f) → f ≡ Choice
    last e = cc

    by : (x : Result Hard Refusal) (y : Result Side Refusal) → (x ≡ Err f → f ≡ Choice) → (y ≡ Err f → f ≡ Choice)
        → both_of x y ≡ Err f → f ≡ Choice
    by (Err g) y p q e = p (let z : g ≡ f = cc in rw z)
    by (Ok a) (Err g) p q e = q (let z : g ≡ f = cc in rw z)
    by (Ok a) (Ok b) p q e = cc

pub refuses_unknown : (h n : ℕ) {f : Refusal} (o : Outcome) (l : List ℕ) (room : ℕ) → picked_of h n ≡ Err f → decoded_says (decoded_of (picked_of h n) o l room) ≡ refuses 8 0
refuses_unknown h n {f} o l room e = rw (e, unknown_choice h n e)

-- and the table's refusals, as the check says them.
pub refuses_table : (e : Encoding) (f : Refusal) (l : List ℕ) (room : ℕ) → decoded_says (decoded_of (Ok e) (refused f) l room) ≡ refusal_says f
refuses_table e f l room = refl
