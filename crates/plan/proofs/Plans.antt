-- A plan without a fault is one value of its domain for each box; a box of a pair finds its value there.
use mathlib.Core.Path.{◌≡◌, refl, sym, ap, ap₂, ◌∙◌}
use mathlib.Core.Option.{none, some}
use mathlib.Core.List.{List}
use Prim.Native.Nat.{ℕ, ◌+◌, ◌-◌, ◌≤◌, ◌<◌}
use native.Mathlib.Nat.{zero-add}
use native.Mathlib.Omega.{arith}
use lib.ListN.{length, get_or}
use lib.Dec.{leb, eqb}
use borrow.Author.Tests.{leb-true, le-leb, lt-leb, eqb-true, eq-eqb, ne_eqb}
use mathlib.Core.Bool.{Bool, true, false, not, cond}
use Rattle.lists.specs.Lists.{nth, sum_of}
use Rattle.lists.specs.Firsts.{unless, first_of}
use Rattle.lists.proofs.Firsts.{unless_none, then_none, none_then, first_each, each_first}
use Rattle.refusal.specs.declared.Refusal.TheVariants.{Length, Entry}
use Rattle.table.specs.Table.{Table, boxes, size, allowed, In}
use Rattle.table.specs.Words.{box_count, pair_count, size_at, pair_at, table_of, Accepted, PairStands}
use Rattle.table.proofs.Tables.{table_boxes, table_size, table_pairs, sum_ahead, pair_first, pair_second, pair_weight}
use Rattle.reader.specs.declared.PairHead.{PairHead}
use Rattle.reader.specs.Reader.{head_at_lem}
use Rattle.plan.specs.Plan.{IsPlan, broken, charge, cost, value_fault, plan_fault}

pub value_none : (t : Table) (plan : List ℕ) (i : ℕ) → value_fault t plan i ≡ none → In 1 (size t (i + 1)) (get_or plan i 0)
unfolding value_fault
value_none t plan i e =
    let p = then_none (unless (leb 1 (get_or plan i 0)) (Entry i)) _ e in
    (leb-true _ _ (unless_none _ _ p.0), leb-true _ _ (unless_none _ _ p.1))

pub none_value : (t : Table) (plan : List ℕ) (i : ℕ) → In 1 (size t (i + 1)) (get_or plan i 0) → value_fault t plan i ≡ none
unfolding value_fault
none_value t plan i (l, h) = rw (le-leb 1 (get_or plan i 0) l, le-leb (get_or plan i 0) (size t (i + 1)) h)

-- ---- each exit of the judgement

pub value_low : (t : Table) (plan : List ℕ) (i : ℕ) → get_or plan i 0 < 1 → value_fault t plan i ≡ some (Entry i)
unfolding value_fault
value_low t plan i h = rw (lt-leb 1 (get_or plan i 0) h)

pub value_high : (t : Table) (plan : List ℕ) (i : ℕ) → 1 ≤ get_or plan i 0 → size t (i + 1) < get_or plan i 0 → value_fault t plan i ≡ some (Entry i)
unfolding value_fault
value_high t plan i l h = rw (le-leb 1 (get_or plan i 0) l, lt-leb (get_or plan i 0) (size t (i + 1)) h)

pub plan_short : (t : Table) (plan : List ℕ) → (length plan ≡ boxes t → ⊥) → plan_fault t plan ≡ some (Length (boxes t))
unfolding plan_fault
plan_short t plan d = rw (ne_eqb (length plan) (boxes t) d)

pub plan_values : (t : Table) (plan : List ℕ) → length plan ≡ boxes t → plan_fault t plan ≡ first_of (value_fault t plan) (λ i. i + 1) (boxes t) 0
unfolding plan_fault
plan_values t plan e = rw (eq-eqb (length plan) (boxes t) e)

-- the domain size that the plan's value at index i is held to
pub size_word : (ws : List ℕ) (i : ℕ) → i < box_count ws → size (table_of ws) (i + 1) ≡ get_or ws (i + 2) 0
size_word ws i h =
    let z : i + 1 + 1 ≡ i + 2 = omega arith in
    table_size ws (i + 1) (omega arith) (omega arith) ∙ ap (λ (k : ℕ). get_or ws k 0) z

-- ---- a plan without a fault, and the other way round

pub fine_plan : (t : Table) (plan : List ℕ) → plan_fault t plan ≡ none → IsPlan t plan
unfolding plan_fault
fine_plan t plan e =
    let p = then_none (unless (eqb (length plan) (boxes t)) (Length (boxes t))) _ e in
    record {
      long = eqb-true _ _ (unless_none _ _ p.0);
      within = λ b l h.
          let z : b - 1 + 1 ≡ b = omega arith in
          rw z at (value_none t plan (b - 1) (rw zero-add at (first_each (value_fault t plan) (boxes t) 0 (b - 1) p.1 (omega arith))));
    }

pub plan_fine : (t : Table) (plan : List ℕ) → IsPlan t plan → plan_fault t plan ≡ none
unfolding plan_fault
plan_fine t plan P =
    none_then {a = unless (eqb (length plan) (boxes t)) (Length (boxes t))} (rw (eq-eqb (length plan) (boxes t) P.long))
    (each_first (value_fault t plan) (boxes t) 0 (λ i h.
    let z : i + 1 - 1 ≡ i = omega arith in
    rw zero-add (none_value t plan i (rw z (rw z at (P.within (i + 1) (omega arith) (omega arith)))))))

-- ---- what a pair is charged

-- the plan has a value for box b
pub record HasValue (ws plan : List ℕ) (b : ℕ) : Type 0 where
  pub low : 1 ≤ b
  pub inside : b ≤ length plan
  pub value : In 1 (size_at ws b) (nth plan b)

plan_value : (ws plan : List ℕ) (b : ℕ) → Accepted ws → IsPlan (table_of ws) plan → In 1 (box_count ws) b → HasValue ws plan b
plan_value ws plan b A P (l, h) =
    let n = table_boxes ws A in
    record { low = l; inside = omega (arith, P.long); value = rw (table_size ws b l h) at (P.within b l (omega arith)) }

-- the plan has a value for each of the two boxes of the pair at a cursor, of which `pair` is the head
pub record Charged (ws plan : List ℕ) (at : ℕ) (pair : PairHead) : Type 0 where
  pub is : pair ≡ head_at_lem ws at
  pub first_is : pair.first ≡ get_or ws at 0
  pub second_is : pair.second ≡ get_or ws (at + 1) 0
  pub first : HasValue ws plan pair.first
  pub second : HasValue ws plan pair.second

pub head_charged : (ws plan : List ℕ) (at : ℕ) (pair : PairHead) → Accepted ws → IsPlan (table_of ws) plan → PairStands ws at → pair ≡ head_at_lem ws at
    → Charged ws plan at pair
head_charged ws plan at pair A P S e =
    let first = ap (λ (h : PairHead). h.first) e ∙ pair_first ws at in
    let second = ap (λ (h : PairHead). h.second) e ∙ pair_second ws at in
    record {
      is = e;
      first_is = first;
      second_is = second;
      first = plan_value ws plan pair.first A P (rw first S.first.number);
      second = plan_value ws plan pair.second A P (rw second S.second.number);
    }

-- the charge by whether the two values are allowed together
charge_by : (ws plan : List ℕ) (at : ℕ) (o : Bool) → o ≡ allowed (pair_at ws at) (nth plan (head_at_lem ws at).first) (nth plan (head_at_lem ws at).second)
    → charge plan (pair_at ws at) ≡ cond o 0 (head_at_lem ws at).weight
charge_by ws plan at o e = rw (← e) (flip o)
  where
    flip : (q : Bool) → cond (not q) (pair_at ws at).weight 0 ≡ cond q 0 (pair_at ws at).weight
    flip true = refl
    flip false = refl

pub charged_by : (ws plan : List ℕ) (at : ℕ) (pair : PairHead) (a b : ℕ) (o : Bool)
    → pair ≡ head_at_lem ws at → a ≡ nth plan pair.first → b ≡ nth plan pair.second → o ≡ allowed (pair_at ws at) a b
    → charge plan (pair_at ws at) ≡ cond o 0 pair.weight
charged_by ws plan at pair a b o e p q r =
    let first = p ∙ ap (λ (h : PairHead). nth plan h.first) e in
    let second = q ∙ ap (λ (h : PairHead). nth plan h.second) e in
    charge_by ws plan at o (r ∙ ap₂ (allowed (pair_at ws at)) first second) ∙ ap (λ (h : PairHead). cond o 0 h.weight) (sym e)

pub charge_light : (ws plan : List ℕ) (at : ℕ) → PairStands ws at → charge plan (pair_at ws at) ≤ 1000000
charge_light ws plan at S = go (broken plan (pair_at ws at))
  where
    go : (o : Bool) → cond o (pair_at ws at).weight 0 ≤ 1000000
    go true = rw (pair_weight ws at) S.weight.1
    go false = omega arith

-- ---- the sum over the pairs

pub cost_all : (ws plan : List ℕ) → cost (table_of ws) plan ≡ sum_ahead ws (charge plan) (pair_count ws) (box_count ws + 2)
unfolding cost
cost_all ws plan = ap (sum_of (charge plan)) (table_pairs ws)
