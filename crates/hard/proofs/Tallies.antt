-- How many clauses and literals a box has, by its number of values alone.
use mathlib.Core.Path.{◌≡◌, refl, sym, ◌∙◌}
use Prim.Native.Nat.{ℕ, zero, suc, ◌+◌, ◌-◌, ◌*◌, ◌/◌, ◌≤◌}
use native.Mathlib.Nat.{mul-le-mul}
use native.Mathlib.Omega.{arith}
use Rattle.clause.specs.declared.Hard.{Hard}
use Rattle.clause.specs.declared.Hard.TheVariants.{Standard, Regular}
use Rattle.clause.specs.Clause.{literals_in}
use Rattle.clause.specs.Numbers.{value_from, step_from}
use Rattle.clause.specs.Hard.{regular_box, box_with}
use Rattle.clause.proofs.Lengths.{standard_length, standard_literals, regular_length, regular_literals}
use Rattle.hard.specs.declared.Tally.{Tally}
use Rattle.hard.specs.Tallies.{tally_of, box_tally_lem}

-- ---- the tally of a box

-- two tallies with the same numbers
pub tally : {a b c d : ℕ} → a ≡ c → b ≡ d → ◌≡◌ {A = Tally} (record { clauses = a; literals = b }) (record { clauses = c; literals = d })
tally p q = rw (p, q)

-- it is the same wherever the box's variables stand
pub tally_any : (hard : Hard) (v s m : ℕ) → tally_of (box_with hard v s m) ≡ box_tally_lem hard m
unfolding box_with
tally_any Standard v s m =
    tally (omega (arith, standard_length (value_from v) m, standard_length (value_from 0) m))
    (standard_literals (value_from v) m ∙ sym (standard_literals (value_from 0) m))
tally_any Regular v s zero = unfold regular_box literals_in in refl
tally_any Regular v s (suc zero) = unfold regular_box literals_in in refl
tally_any Regular v s (suc (suc k)) =
    tally (regular_length (value_from v) (step_from s) k ∙ sym (regular_length (value_from 0) (step_from 0) k))
    (regular_literals (value_from v) (step_from s) k ∙ sym (regular_literals (value_from 0) (step_from 0) k))

-- ---- in closed form

-- with at most 16 values the products fit
pub square_few : (m : ℕ) → m ≤ 16 → m * m ≤ 256
square_few m h = omega (arith, mul-le-mul h h)

pub pairs_few : (m : ℕ) → m ≤ 16 → m * (m - 1) ≤ 256
pairs_few m h = let l : m - 1 ≤ 16 = omega arith in omega (arith, mul-le-mul h l)

pub standard_tally_lem : (m : ℕ) → 1 ≤ m → ◌≡◌ {A = Tally} (record { clauses = 1 + m * (m - 1) / 2; literals = m * m }) (box_tally_lem Standard m)
unfolding box_with
standard_tally_lem zero h = absurd (omega arith)
standard_tally_lem (suc k) h =
    let z : suc k - 1 ≡ k = omega arith in
    tally (rw z (omega (arith, standard_length (value_from 0) (suc k)))) (sym (standard_literals (value_from 0) (suc k)))

pub single_tally : ◌≡◌ {A = Tally} (record { clauses = 1; literals = 1 }) (box_tally_lem Regular 1)
unfolding box_with regular_box literals_in
single_tally = refl

pub regular_tally_lem : (m : ℕ) → 2 ≤ m → ◌≡◌ {A = Tally} (record { clauses = 4 * m - 4; literals = 9 * m - 10 }) (box_tally_lem Regular m)
unfolding box_with
regular_tally_lem zero h = absurd (omega arith)
regular_tally_lem (suc zero) h = absurd (omega arith)
regular_tally_lem (suc (suc k)) h =
    tally (omega (arith, regular_length (value_from 0) (step_from 0) k)) (omega (arith, regular_literals (value_from 0) (step_from 0) k))
