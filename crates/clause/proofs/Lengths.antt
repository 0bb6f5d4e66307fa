-- How many clauses and literals each part has, counted value by value; how long that is as it is written; and bounds for domains of up to 16 values.
use mathlib.Core.Path.{◌≡◌, refl, ap, ◌∙◌}
use Prim.Native.Nat.{ℕ, zero, suc, ◌+◌, ◌-◌, ◌*◌, ◌≤◌}
use native.Mathlib.Nat.{mul-le-mul, mul-le-mul_left, mul-le-mul_right}
use native.Mathlib.Omega.{arith}
use mathlib.Core.Bool.{cond}
use mathlib.Core.List.{List, [], ◌∷◌, ◌++◌, map, flat_map, map-append}
use lib.ListN.{length, replicate, length-append, length-map}
use Rattle.lists.specs.Lists.{count, sum_of, Each}
use Rattle.lists.proofs.Truth.{test}
use Rattle.lists.proofs.Lists.{flat_append, sum_append, sum_map, sum_flat}
use Rattle.lists.proofs.Blocks.{length_count}
use Rattle.lists.proofs.Sums.{each_flat, each_map, sum_same, sum_constant, sum_plus, sum_most, run_most, one_most}
use Rattle.lists.proofs.Sums.{those_length, length_flat}
use Rattle.table.specs.Table.{Table, Pair, size}
use Rattle.clause.specs.declared.Hard.{Hard}
use Rattle.clause.specs.declared.Hard.TheVariants.{Standard, Regular}
use Rattle.clause.specs.declared.Side.{Side}
use Rattle.clause.specs.declared.Side.TheVariants.{Direct, Support, First, Literals, Score}
use Rattle.clause.specs.Clause.{Lit, plus, Clause, Weighted, weigh, closed, bare, entries_of, entries, weights, literals_in}
use Rattle.clause.specs.Numbers.{value_from, step_from}
use Rattle.clause.specs.Hard.{not_both, standard_box, regular_box, chain_at, lowest, between, highest, box_with}
use Rattle.clause.specs.Ends.{End, Which, one, two, end, direct_at, direct_row, direct_clauses, supports, full, support_at, support_clauses}
use Rattle.clause.specs.Choice.{by_literals, by_score}
use Rattle.clause.specs.Soft.{pick, soft_with}

-- ---- as it is written, part by part

pub entries_of_none : entries_of [] ≡ []
unfolding entries_of flat_map
entries_of_none = refl

pub entries_of_append : (cs ds : List Clause) → entries_of (cs ++ ds) ≡ entries_of cs ++ entries_of ds
unfolding entries_of
entries_of_append cs ds = flat_append closed cs ds

pub entries_append : (ws us : List Weighted) → entries (ws ++ us) ≡ entries ws ++ entries us
unfolding entries
entries_append ws us = ap entries_of (map-append (λ u. u.lits) ws us) ∙ entries_of_append (bare ws) (bare us)

pub weights_append : (ws us : List Weighted) → weights (ws ++ us) ≡ weights ws ++ weights us
unfolding weights
weights_append ws us = map-append (λ u. u.weight) ws us

-- the written entries do not depend on the weight, and each clause's weight is that of its part
pub entries_weigh : (w : ℕ) (cs : List Clause) → entries (weigh w cs) ≡ entries_of cs
unfolding entries
entries_weigh w cs = ap entries_of (same_clauses cs)
  where
    same_clauses : (cs : List Clause) → bare (weigh w cs) ≡ cs
    same_clauses [] = refl
    same_clauses (d ∷ cs) = ap (λ (l : List Clause). d ∷ l) (same_clauses cs)

pub weights_weigh : (w : ℕ) (cs : List Clause) → weights (weigh w cs) ≡ replicate (length cs) w
unfolding weights
weights_weigh w [] = refl
weights_weigh w (d ∷ cs) = ap (λ (l : List ℕ). w ∷ l) (weights_weigh w cs)

pub literals_none : literals_in [] ≡ 0
unfolding literals_in
literals_none = refl

pub literals_append : (cs ds : List Clause) → literals_in (cs ++ ds) ≡ literals_in cs + literals_in ds
unfolding literals_in
literals_append cs ds = sum_append length cs ds

-- an entry for each literal and one for each clause's 0
pub entries_length : (cs : List Clause) → length (entries_of cs) ≡ length cs + literals_in cs
unfolding entries_of literals_in flat_map
entries_length [] = refl
entries_length (d ∷ cs) = simp (length-append, length-map) (omega (arith, entries_length cs))

-- ---- a box

-- m-1, m-2, .., 0
falling : (m s n : ℕ) → s + n ≡ suc m → sum_of (λ j. m - j) (count s n) * 2 + n ≡ n * n
falling m s zero e = refl
falling m s (suc n) e =
    let z : m - s ≡ n = omega arith in
    rw z (omega (arith, falling m (suc s) n (omega arith)))

-- 1 + m(m-1)/2 clauses
pub standard_length : (x : ℕ → ℕ) (m : ℕ) → length (standard_box x m) * 2 + m ≡ 2 + m * m
unfolding standard_box
standard_length x m = simp (length_flat, length-map, length_count) (omega (arith, falling m 1 m (omega arith)))

pub standard_literals : (x : ℕ → ℕ) (m : ℕ) → literals_in (standard_box x m) ≡ m * m
unfolding standard_box literals_in
standard_literals x m =
    let apart : ℕ → List Clause = λ j. map (not_both x j) (count (suc j) (m - j)) in
    let rest : List Clause = flat_map apart (count 1 m) in
    let two : Each (λ c. length c ≡ 2) rest
    = each_flat (λ c. length c ≡ 2) apart (λ j. each_map (λ c. length c ≡ 2) (not_both x j) (λ k. refl) (count (suc j) (m - j))) (count 1 m) in
    omega (arith, standard_length x m, sum_same length 2 rest two, length-map (count 1 m) (λ j. plus (x j)), length_count 1 m)

-- 4m - 4 clauses
pub regular_length : (x r : ℕ → ℕ) (k : ℕ) → length (regular_box x r (suc (suc k))) ≡ 4 * suc k
unfolding regular_box lowest between highest
regular_length x r k = simp (length-append, length-map, length_count, length_flat) (omega (arith, sum_constant 3 (count 2 k), length_count 2 k))

-- 9m - 10 literals
pub regular_literals : (x r : ℕ → ℕ) (k : ℕ) → literals_in (regular_box x r (suc (suc k))) ≡ 9 * k + 8
unfolding regular_box chain_at lowest between highest literals_in
regular_literals x r k =
    simp (sum_append, sum_map, sum_flat)
    (omega (arith, sum_constant 2 (count 3 k), length_count 3 k, sum_constant 7 (count 2 k), length_count 2 k))

-- ---- an end

module _ (e : End) where
  pub direct_length : length (direct_clauses e) ≡ sum_of (λ i. length (direct_row e i)) (count 1 e.mine)
  unfolding direct_clauses
  direct_length = length_flat (direct_row e) (count 1 e.mine)

  direct_at_length : (i j : ℕ) → length (direct_at e i j) ≡ cond (e.ok i j) 0 1
  unfolding direct_at
  direct_at_length i j = test (e.ok i j) (λ p. rw p) (λ p. rw p)

  pub row_length : (i : ℕ) → length (direct_row e i) ≡ sum_of (λ j. cond (e.ok i j) 0 1) (count 1 e.theirs)
  unfolding direct_row
  row_length i = simp (length_flat, direct_at_length)

  -- every clause has two literals
  row_two : (i : ℕ) → Each (λ c. length c ≡ 2) (direct_row e i)
  unfolding direct_row direct_at
  row_two i =
      each_flat (λ c. length c ≡ 2) (direct_at e i) (λ j. test (e.ok i j) (λ p. rw p tt) (λ p. rw p (refl, tt))) (count 1 e.theirs)

  pub direct_literals : literals_in (direct_clauses e) ≡ length (direct_clauses e) * 2
  unfolding literals_in direct_clauses
  direct_literals = sum_same length 2 (direct_clauses e) (each_flat (λ c. length c ≡ 2) (direct_row e) row_two (count 1 e.mine))

  -- at most one for each pair of values
  pub row_most : (i : ℕ) → length (direct_row e i) ≤ e.theirs
  row_most i = rw row_length (omega (arith, run_most (λ j. cond (e.ok i j) 0 1) 1 1 e.theirs (λ j. one_most (e.ok i j))))

  pub direct_most : length (direct_clauses e) ≤ e.mine * e.theirs
  direct_most = rw direct_length (run_most (λ i. length (direct_row e i)) e.theirs 1 e.mine row_most)

  pub supports_most : (j : ℕ) → length (supports e j) ≤ e.theirs
  unfolding supports
  supports_most j = rw length-map (omega (arith, those_length (e.ok j) (count 1 e.theirs), length_count 1 e.theirs))

module _ (e : End) (tail : Clause) where
  pub support_length : length (support_clauses e tail) ≡ sum_of (λ j. length (support_at e tail j)) (count 1 e.mine)
  unfolding support_clauses
  support_length = length_flat (support_at e tail) (count 1 e.mine)

  pub support_literals : literals_in (support_clauses e tail) ≡ sum_of (λ j. literals_in (support_at e tail j)) (count 1 e.mine)
  unfolding support_clauses literals_in
  support_literals = sum_flat length (support_at e tail) (count 1 e.mine)

  pub at_length : (j : ℕ) → length (support_at e tail j) ≡ cond (full e j) 0 1
  unfolding support_at
  at_length j = test (full e j) (λ p. rw p) (λ p. rw p)

  pub at_literals : (j : ℕ) → literals_in (support_at e tail j) ≡ cond (full e j) 0 (1 + length (supports e j) + length tail)
  unfolding support_at literals_in
  at_literals j = test (full e j) (λ p. rw p) (λ p. rw (p, length-append) (omega arith))

  -- every clause has a literal of its own value, some of the other box's, and the tail
  pub support_each : Each (λ c. length c ≤ 1 + e.theirs + length tail) (support_clauses e tail)
  unfolding support_clauses support_at
  support_each =
      each_flat (λ c. length c ≤ 1 + e.theirs + length tail) (support_at e tail)
      (λ j. test (full e j) (λ p. rw p tt) (λ p. rw p (rw length-append (omega (arith, supports_most e j)), tt))) (count 1 e.mine)

  -- at most one for each value
  pub support_most : length (support_clauses e tail) ≤ e.mine
  support_most =
      simp (support_length, at_length) (omega (arith, run_most (λ j. cond (full e j) 0 1) 1 1 e.mine (λ j. one_most (full e j))))

-- with a tail of one literal there are as many clauses as with none, and each has one literal more
module _ (e : End) (l : Lit) where
  pub support_tail_length : length (support_clauses e (l ∷ [])) ≡ length (support_clauses e [])
  support_tail_length = simp (support_length, at_length)

  at_tail : (j : ℕ) → literals_in (support_at e (l ∷ []) j) ≡ literals_in (support_at e [] j) + length (support_at e [] j)
  at_tail j = simp (at_literals, at_length) (test (full e j) (λ p. rw p) (λ p. rw p (omega arith)))

  pub support_tail : literals_in (support_clauses e (l ∷ [])) ≡ literals_in (support_clauses e []) + length (support_clauses e [])
  support_tail = simp (support_literals, support_length, at_tail, sum_plus)

-- ---- bounds, for domains of up to 16 values

-- at most n clauses, and at most k entries as they are written
pub record Room (cs : List Clause) (n k : ℕ) : Type 0 where
  pub clauses : length cs ≤ n
  pub entries : length (entries_of cs) ≤ k

room : {n k : ℕ} (cs : List Clause) → length cs ≤ n → length cs + literals_in cs ≤ k → Room cs n k
room cs h l = record { clauses = h; entries = omega (arith, entries_length cs) }

regular_room : (x r : ℕ → ℕ) (m : ℕ) → m ≤ 16 → Room (regular_box x r m) 128 400
unfolding regular_box literals_in
regular_room x r zero h = room (regular_box x r 0) (omega arith) (omega arith)
regular_room x r (suc zero) h = room (regular_box x r 1) (omega arith) (omega arith)
regular_room x r (suc (suc k)) h =
    let n = regular_length x r k in
    room (regular_box x r (suc (suc k))) (omega arith) (omega (arith, regular_literals x r k))

-- a box has at most 121 clauses and 377 entries
pub box_room : (h : Hard) (v s m : ℕ) → m ≤ 16 → Room (box_with h v s m) 128 400
unfolding box_with
box_room Standard v s m h =
    let n = standard_length (value_from v) m in
    let square = mul-le-mul_right m h in
    room (standard_box (value_from v) m) (omega arith) (omega (arith, standard_literals (value_from v) m))
box_room Regular v s m h = regular_room (value_from v) (step_from s) m h

pub record Small (e : End) : Type 0 where
  pub mine : e.mine ≤ 16
  pub theirs : e.theirs ≤ 16

pub end_small : (t : Table) (p : Pair) → size t p.first ≤ 16 → size t p.second ≤ 16 → (w : Which) → Small (end t p w)
unfolding end
end_small t p h k one = record { mine = h; theirs = k }
end_small t p h k two = record { mine = k; theirs = h }

direct_room : (e : End) → Small e → Room (direct_clauses e) 256 1024
direct_room e S =
    let n = direct_most e in
    let area = mul-le-mul S.mine S.theirs in
    room (direct_clauses e) (omega arith) (omega (arith, direct_literals e))

-- a clause of an end has at most 18 literals
support_room : (e : End) (tail : Clause) → Small e → length tail ≤ 1 → Room (support_clauses e tail) 16 304
unfolding literals_in
support_room e tail S h =
    let cs = support_clauses e tail in
    let n = support_most e tail in
    let m = S.mine in
    let wide : 1 + e.theirs + length tail ≤ 18 = omega (arith, S.theirs) in
    room cs (omega arith) (omega (arith, sum_most length (1 + e.theirs + length tail) cs (support_each e tail), mul-le-mul_left (length cs) wide))

module _ (a b : End) (A : Small a) (B : Small b) (on off : Clause) (p : length on ≤ 1) (q : length off ≤ 1) where
  from : (w : Which) → Room (support_clauses (pick w a b) []) 256 1024
  from w = let R = support_room (pick w a b) [] (small w) (omega arith) in record { clauses = omega arith; entries = omega arith }
    where
      small : (w : Which) → Small (pick w a b)
      small one = A
      small two = B

  -- a pair has at most 256 clauses and 768 entries
  pub soft_room : (s : Side) → Room (soft_with s a b on off) 256 1024
  unfolding soft_with
  soft_room Direct = direct_room a A
  soft_room Support =
      let C = support_room a on A p in
      let D = support_room b off B q in
      record { clauses = rw length-append (omega arith); entries = rw (entries_of_append, length-append) (omega arith) }
  soft_room First = from one
  soft_room Literals = from (by_literals a b)
  soft_room Score = from (by_score a b)
