-- A plan gives each box a value. What it costs, and what is wrong with it first.
use Rattle.std.specs.Prelude.{Result, Ok, Err}
use Rattle.std.specs.Prelude.{ℕ, ◌+◌, ◌≤◌, ◌<◌, ◌≡◌, Bool, not, cond, List, [], ◌∷◌, length, get_or, leb, eqb}
use Rattle.std.proofs.Math.Option.{Option}
use Rattle.lists.specs.Firsts.{◌then◌, unless, first_of}
use Rattle.lists.specs.Lists.{nth, sum_of}
use Rattle.refusal.specs.declared.Refusal.{Refusal}
use Rattle.refusal.specs.declared.Refusal.TheVariants.{Length, Entry}
use Rattle.refusal.specs.Refusals.{result_of, Says, gives, refusal_says}
use Rattle.table.specs.Table.{Pair, Table, boxes, size, allowed, In}
use Rattle.table.specs.Words.{Outcome, refused, accepted}

pub record IsPlan (t : Table) (plan : List ℕ) : Type 0 where
  pub long : length plan ≡ boxes t
  pub within : (b : ℕ) → 1 ≤ b → b ≤ boxes t → In 1 (size t b) (nth plan b)

-- i is the lowest index of a value outside its box's domain; the box at index i is box i + 1
pub record LowestOut (t : Table) (plan : List ℕ) (i : ℕ) : Type 0 where
  pub inside : i < boxes t
  pub outside : In 1 (size t (i + 1)) (get_or plan i 0) → ⊥
  pub before : (j : ℕ) → j < i → In 1 (size t (j + 1)) (get_or plan j 0)

-- a pair is broken by a plan whose two values are not allowed together
abbrev pub broken : List ℕ → Pair → Bool
broken plan p = not (allowed p (nth plan p.first) (nth plan p.second))

abbrev pub charge : List ℕ → Pair → ℕ
charge plan p = cond (broken plan p) p.weight 0

-- the sum of the weights of the broken pairs
unfoldable pub cost : Table → List ℕ → ℕ
cost t plan = sum_of (charge plan) t.pairs

-- ---- what is wrong with a plan first

-- the value that a plan gives to the box at an index lies in its domain
unfoldable pub value_fault : Table → List ℕ → ℕ → Option Refusal
value_fault t plan i = unless (leb 1 (get_or plan i 0)) (Entry i) then unless (leb (get_or plan i 0) (size t (i + 1))) (Entry i)

-- 10 for a plan of the wrong length, then 11 at the lowest index of a value outside its domain
unfoldable pub plan_fault : Table → List ℕ → Option Refusal
plan_fault t plan = unless (eqb (length plan) (boxes t)) (Length (boxes t)) then first_of (value_fault t plan) (λ i. i + 1) (boxes t) 0

-- ---- the answers

-- the table's refusals, then the plan's; else the cost
abbrev pub costed_of : Outcome → List ℕ → Result ℕ Refusal
costed_of (refused f) plan = Err f
costed_of (accepted t) plan = result_of (plan_fault t plan) (cost t plan)

-- success gives the cost
abbrev pub costed_says : Result ℕ Refusal → Says
costed_says (Err f) = refusal_says f
costed_says (Ok c) = gives (c ∷ [])
