-- No variable has number 0: so a 0 in a clause list closes a clause, and nothing else does.
use mathlib.Core.List.{List, [], ◌∷◌, ◌++◌, map, flat_map}
use Prim.Native.Nat.{ℕ, zero, suc, ◌-◌, ◌≤◌}
use native.Mathlib.Omega.{arith}
use Rattle.lists.specs.Lists.{count, Each}
use Rattle.lists.proofs.Sums.{each_append, each_map_run, each_flat_run, each_those_run, each_cond}
use Rattle.table.specs.Table.{Table, Pair}
use Rattle.clause.specs.declared.Hard.{Hard}
use Rattle.clause.specs.declared.Hard.TheVariants.{Standard, Regular}
use Rattle.clause.specs.declared.Side.{Side}
use Rattle.clause.specs.declared.Side.TheVariants.{Direct, Support, First, Literals, Score}
use Rattle.clause.specs.Clause.{Lit, plus, minus, Clause}
use Rattle.clause.specs.Numbers.{value_from, step_from, c}
use Rattle.clause.specs.Hard.{one_of, not_both, standard_box, chain_at, lowest, between, highest, regular_box, box_with, box_clauses}
use Rattle.clause.specs.Ends.{End, one, two, end, direct_at, direct_row, direct_clauses, supports, full, support_at, support_clauses}
use Rattle.clause.specs.Soft.{pick, soft_with, soft}
use Rattle.clause.specs.Choice.{by_literals, by_score}

abbrev pub number : Lit → ℕ
number (plus v) = v
number (minus v) = v

-- each literal has a variable's number, and these begin at 1
abbrev pub Named : Clause → Type 0
Named c = Each (λ l. 1 ≤ number l) c

abbrev pub AllNamed : List Clause → Type 0
AllNamed cs = Each Named cs

-- ---- a box

module _ (v : ℕ) where
  one_named : (m : ℕ) → Named (one_of (value_from v) m)
  one_named m = each_map_run (λ l. 1 ≤ number l) (λ j. plus (value_from v j)) 1 m (λ j l. omega arith)

  standard_named : (m : ℕ) → AllNamed (standard_box (value_from v) m)
  unfolding standard_box flat_map
  standard_named m = (
    one_named m,
    each_flat_run Named (λ j. map (not_both (value_from v) j) (count (suc j) (m - j))) 1 m
        (λ j l. each_map_run Named (not_both (value_from v) j) (suc j) (m - j) (λ k h. (omega arith, (omega arith, tt)))),
  )

module _ (v s : ℕ) where
  regular_named : (m : ℕ) → AllNamed (regular_box (value_from v) (step_from s) m)
  unfolding regular_box chain_at lowest between highest flat_map
  regular_named zero = (tt, tt)
  regular_named (suc zero) = ((omega arith, tt), tt)
  regular_named (suc (suc k)) =
      let x = value_from v in
      let r = step_from s in
      let chain = each_map_run Named (chain_at r) 3 k (λ j l. (omega arith, (omega arith, tt))) in
      let low : AllNamed (lowest x r) = ((omega arith, (omega arith, tt)), ((omega arith, (omega arith, tt)), tt)) in
      let mid = each_flat_run Named (between x r) 2 k
      (λ j l. ((omega arith, (omega arith, tt)), ((omega arith, (omega arith, tt)), ((omega arith, (omega arith, (omega arith, tt))), tt)))) in
      let top : AllNamed (highest x r (suc (suc k))) = ((omega arith, (omega arith, tt)), ((omega arith, (omega arith, tt)), tt)) in
      let links = each_append Named (flat_map (between x r) (count 2 k)) (highest x r (suc (suc k))) mid top in
      each_append Named (map (chain_at r) (count 3 k)) (lowest x r ++ (flat_map (between x r) (count 2 k) ++ highest x r (suc (suc k)))) chain
      (each_append Named (lowest x r) (flat_map (between x r) (count 2 k) ++ highest x r (suc (suc k))) low links)

box_named : (h : Hard) (v s m : ℕ) → AllNamed (box_with h v s m)
unfolding box_with
box_named Standard v s m = standard_named v m
box_named Regular v s m = regular_named v s m

pub hard_named : (h : Hard) (t : Table) (b : ℕ) → AllNamed (box_clauses h t b)
unfolding box_clauses
hard_named h t b = box_named h _ _ _

-- ---- a pair

module _ (e : End) where
  direct_named : AllNamed (direct_clauses e)
  unfolding direct_clauses direct_row direct_at flat_map
  direct_named =
      each_flat_run Named (direct_row e) 1 e.mine
      (λ i h. each_flat_run Named (direct_at e i) 1 e.theirs
      (λ j l. each_cond Named (e.ok i j) (minus (value_from e.own i) ∷ minus (value_from e.other j) ∷ []) (omega arith, (omega arith, tt))))

  support_named : (tail : Clause) → Named tail → AllNamed (support_clauses e tail)
  unfolding support_clauses support_at supports flat_map
  support_named tail n =
      each_flat_run Named (support_at e tail) 1 e.mine
      (λ j h. each_cond Named (full e j) (minus (value_from e.own j) ∷ (supports e j ++ tail)) (
        omega arith,
        each_append (λ l. 1 ≤ number l) (supports e j) tail
            (each_those_run (λ l. 1 ≤ number l) (λ i. plus (value_from e.other i)) (e.ok j) 1 e.theirs (λ i l. omega arith)) n,
      ))

pub soft_named : (s : Side) (t : Table) (on off : Clause) (p : Pair) → Named on → Named off → AllNamed (soft s t on off p)
unfolding soft soft_with
soft_named Direct t on off p a b = direct_named (end t p one)
soft_named Support t on off p a b =
    each_append Named (support_clauses (end t p one) on) _ (support_named (end t p one) on a) (support_named (end t p two) off b)
soft_named First t on off p a b = support_named (end t p one) [] tt
soft_named Literals t on off p a b = support_named (pick (by_literals (end t p one) (end t p two)) (end t p one) (end t p two)) [] tt
soft_named Score t on off p a b = support_named (pick (by_score (end t p one) (end t p two)) (end t p one) (end t p two)) [] tt
