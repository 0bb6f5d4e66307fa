-- The list maker in document 01's terms: over an accepted table one of four verdicts holds for a plan, and what it says is the verdict's.
use Rattle.std.specs.Prelude.{Ok}
use mathlib.Core.Path.{◌≡◌, refl, sym, ◌∙◌, subst}
use mathlib.Core.Logic.Iff
use mathlib.Core.Logic.{◌↔◌, ◌≢◌, ⊎_elim}
use mathlib.Core.Option.{Option, none, some}
use mathlib.Core.List.{List, [], ◌∷◌}
use Prim.Native.Nat.{ℕ, ◌+◌, ◌≤◌, ◌<◌}
use native.Mathlib.Omega.{arith}
use lib.ListN.{length, get_or, take}
use borrow.Author.Tests.{le-leb, lt-leb}
use Rattle.lists.specs.Firsts.{◌then◌}
use Rattle.lists.proofs.Truth.{order, same}
use Rattle.refusal.specs.declared.Refusal.{Refusal}
use Rattle.refusal.specs.Refusals.{Says, gives, refuses, result_of}
use Rattle.table.specs.Table.{Table, boxes, size, words_of, In, Sound}
use Rattle.table.specs.Words.{accepted}
use Rattle.table.proofs.Round.{sound_accepted}
use Rattle.plan.specs.Plan.{IsPlan, LowestOut, cost, value_fault, plan_fault, costed_says}
use Rattle.plan.proofs.Plans.{value_none, none_value, plan_values, plan_fine, fine_plan}
use Rattle.plan.proofs.Promises.{cost_says, cost_length, cost_entry}
use Rattle.clause.specs.declared.Hard.{Hard}
use Rattle.clause.specs.declared.Side.{Side}
use Rattle.clause.specs.Numbers.{variables}
use Rattle.decoder.specs.Lists.{made}
use Rattle.decoder.specs.Answers.{room_fault, make_fault, made_of, list_after, made_says}
use Rattle.lists.proofs.Stores.{sets_begins}
use Rattle.lists.proofs.Search.{clear_exact, lowest}
use Rattle.maker.proofs.Long.{made_long}

-- what the list maker says of a plan over an accepted table, lent a list of `room` entries
abbrev pub make_says : Hard → Side → Table → List ℕ → ℕ → Says
make_says h s t plan room = made_says (made_of (Ok (record { hard = h; side = s })) (accepted t) plan room)

module _ (h : Hard) (s : Side) (t : Table) (S : Sound t) (plan : List ℕ) (room : ℕ) where
  -- how many entries are needed
  abbrev needed : ℕ
  needed = variables t h s

  -- the four verdicts, each with what is said
  data Verdict : Says → Type 0 where
    wrong_length : {place : ℕ} → length plan ≢ boxes t → place ≡ boxes t → Verdict (refuses 10 place)
    wrong_value : {place : ℕ} → length plan ≡ boxes t → LowestOut t plan place → Verdict (refuses 11 place)
    no_room : {place : ℕ} → IsPlan t plan → room < needed → place ≡ needed → Verdict (refuses 9 place)
    fine : {n : ℕ} → IsPlan t plan → needed ≤ room → n ≡ needed → Verdict (gives (n ∷ []))

  -- ---- one of them holds

  abbrev InDomain : ℕ → Type 0
  InDomain i = In 1 (size t (i + 1)) (get_or plan i 0)

  value_exact : (i : ℕ) → (value_fault t plan i ≡ none) ↔ InDomain i
  value_exact i = (value_none t plan i, none_value t plan i)

  fits : IsPlan t plan → (w : Says) × Verdict w
  fits P = order needed room (λ q. (_, fine P q refl)) (λ q. (_, no_room P q refl))

  judged_values : length plan ≡ boxes t → (w : Says) × Verdict w
  judged_values n =
      ⊎_elim
      (λ g. fits (fine_plan t plan (plan_values t plan n ∙ (clear_exact (value_fault t plan) InDomain value_exact (boxes t) 0).1 g)))
      (λ w.
      let L = w.1 in
      (_, wrong_value n (record { inside = omega (arith, L.high); outside = L.fails; before = λ j u. L.before j (omega arith) u })))
      (lowest (value_fault t plan) InDomain value_exact (boxes t) 0)

  some_verdict : (w : Says) × Verdict w
  some_verdict = same (length plan) (boxes t) judged_values (λ d. (_, wrong_length d refl))

  -- ---- and what it says is said

  -- of a plan's faults it says what the cost does
  as_cost : {number place : ℕ} → cost_says (words_of t) plan ≡ refuses number place → make_says h s t plan room ≡ refuses number place
  unfolding make_fault
  as_cost {number} {place} e = go (plan_fault t plan) (rw (sound_accepted t S) at e)
    where
      go : (o : Option Refusal) → costed_says (result_of o (cost t plan)) ≡ refuses number place
          → made_says (result_of (o then room_fault (variables t h s) room) (variables t h s)) ≡ refuses number place
      go none q = absurd (let z : ◌≡◌ {A = ℕ} 0 1 = cc in omega arith)
      go (some f) q = q

  said : {w : Says} → Verdict w → make_says h s t plan room ≡ w
  unfolding make_fault
  said (wrong_length d z) = as_cost ((cost_length (words_of t) plan t _ (sound_accepted t S)).1 (d, z))
  said (wrong_value n L) = as_cost ((cost_entry (words_of t) plan t _ (sound_accepted t S)).1 (n, L))
  said (no_room P q z) = rw (plan_fine t plan P, lt-leb needed room q, z)
  said (fine P q z) = rw (plan_fine t plan P, le-leb needed room q, z)

  exactly : (w : Says) → (make_says h s t plan room ≡ w) ↔ Verdict w
  exactly w = let (r, v) = some_verdict in (λ q. subst Verdict (sym (said v) ∙ q) v, said)

  -- ---- the promises

  -- 10: a plan of the wrong length; place: the length wanted.
  pub make_length : (place : ℕ) → (make_says h s t plan room ≡ refuses 10 place) ↔ ((length plan ≢ boxes t) × (place ≡ boxes t))
  make_length place = Iff.trans (exactly (refuses 10 place)) (λ v. elim v [ wrong_length d z ↦ (d, z) ], λ (d, z). wrong_length d z)

  -- 11: a plan value not in its domain; place: the lowest index.
  pub make_value : (place : ℕ) → (make_says h s t plan room ≡ refuses 11 place) ↔ ((length plan ≡ boxes t) × LowestOut t plan place)
  make_value place = Iff.trans (exactly (refuses 11 place)) (λ v. elim v [ wrong_value n L ↦ (n, L) ], λ (n, L). wrong_value n L)

  -- 9: the lent list is too short; place: the length needed.
  pub make_room : (place : ℕ) → (make_says h s t plan room ≡ refuses 9 place) ↔ (IsPlan t plan × (room < variables t h s) × (place ≡ variables t h s))
  make_room place = Iff.trans (exactly (refuses 9 place)) (λ v. elim v [ no_room P q z ↦ (P, q, z) ], λ (P, q, z). no_room P q z)

  -- Else success gives the length written.
  pub make_gives : (n : ℕ) → (make_says h s t plan room ≡ gives (n ∷ [])) ↔ (IsPlan t plan × (variables t h s ≤ room) × (n ≡ variables t h s))
  make_gives n = Iff.trans (exactly (gives (n ∷ []))) (λ v. elim v [ fine P q z ↦ (P, q, z) ], λ (P, q, z). fine P q z)

-- And then the lent list begins with the list made from the plan.
pub make_list_lem : (h : Hard) (s : Side) (t : Table) (plan old : List ℕ) → IsPlan t plan → variables t h s ≤ length old
    → take (variables t h s) (list_after (Ok (record { hard = h; side = s })) (accepted t) plan old) ≡ made h s t plan
unfolding make_fault
make_list_lem h s t plan old P q =
    rw (plan_fine t plan P, le-leb (variables t h s) (length old) q) (sets_begins (made h s t plan) old (variables t h s) (made_long t plan h s) q)
