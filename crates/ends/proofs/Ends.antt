-- An end that is seen well has boxes of 1 to 16 values; its support counted; a value's clause by whether its support is full.
use mathlib.Core.Path.{◌≡◌, sym, ◌∙◌}
use mathlib.Core.Bool.{Bool, true, false, cond}
use mathlib.Core.List.{List, [], ◌∷◌, ◌++◌}
use Prim.Native.Nat.{ℕ, ◌+◌, ◌-◌, ◌≤◌, ◌<◌}
use native.Mathlib.Omega.{arith}
use lib.ListN.{length, get_or, length-map}
use lib.Dec.{eqb}
use borrow.Author.Tests.{eq-eqb, ne_eqb}
use Rattle.lists.specs.Lists.{count, those}
use Rattle.lists.proofs.Truth.{test}
use Rattle.lists.proofs.Blocks.{length_count}
use Rattle.table.specs.Table.{In}
use Rattle.table.specs.Words.{size_at, PairStands}
use Rattle.clause.specs.Clause.{minus, Clause}
use Rattle.clause.specs.Numbers.{value_from}
use Rattle.clause.specs.Ends.{End, supports, full, support_at}
use Rattle.ends.specs.declared.Seen.{Seen}
use Rattle.ends.specs.Seen.{SeenWell}
use Rattle.lists.proofs.Runs.{count_turn, count_end, count_all}
use Rattle.lists.proofs.Sums.{those_length}
use Rattle.ends.proofs.Values.{all_those}

box_few : {ws : List ℕ} {at : ℕ} → PairStands ws at → (t : Bool) → In 1 16 (size_at ws (cond t (get_or ws (at + 1) 0) (get_or ws at 0)))
box_few S true = S.second.values
box_few S false = S.first.values

other_few : {ws : List ℕ} {at : ℕ} → PairStands ws at → (t : Bool) → In 1 16 (size_at ws (cond t (get_or ws at 0) (get_or ws (at + 1) 0)))
other_few S true = S.first.values
other_few S false = S.second.values

-- each box has 1 to 16 values
pub mine_few : {ws : List ℕ} {seen : Seen} → SeenWell ws seen → In 1 16 seen.mine
mine_few {ws} {seen} W = rw W.mine (box_few W.pair seen.turned)

pub theirs_few : {ws : List ℕ} {seen : Seen} → SeenWell ws seen → In 1 16 seen.theirs
theirs_few {ws} {seen} W = rw W.theirs (other_few W.pair seen.turned)

-- how many values each box has, by the box that sees the pair
pub sizes_seen : {ws : List ℕ} {seen : Seen} → SeenWell ws seen → (t : Bool) → seen.turned ≡ t
    → let first = size_at ws (get_or ws seen.at 0) in
    let second = size_at ws (get_or ws (seen.at + 1) 0) in
    (seen.mine ≡ cond t second first) × (seen.theirs ≡ cond t first second)
sizes_seen W true e = (W.mine ∙ rw e, W.theirs ∙ rw e)
sizes_seen W false e = (W.mine ∙ rw e, W.theirs ∙ rw e)

-- ---- support, counted

-- how many of the values i, i + 1, .. of the other box support value j
abbrev pub supporters_from : End → ℕ → ℕ → ℕ
supporters_from e j i = length (those (e.ok j) (count i (e.theirs + 1 - i)))

pub supports_length : (e : End) (j : ℕ) → length (supports e j) ≡ length (those (e.ok j) (count 1 e.theirs))
unfolding supports
supports_length e j = length-map (those (e.ok j) (count 1 e.theirs)) _

pub supporters_all : (e : End) (j : ℕ) → supporters_from e j 1 ≡ length (supports e j)
supporters_all e j = rw (count_all, supports_length)

pub supporters_turn : (e : End) (j i : ℕ) → i ≤ e.theirs → supporters_from e j i ≡ cond (e.ok j i) 1 0 + supporters_from e j (i + 1)
supporters_turn e j i h = rw (count_turn i e.theirs h) (test (e.ok j i) (λ p. rw p (omega arith)) (λ p. rw p (omega arith)))

pub supporters_none : (e : End) (j i : ℕ) → e.theirs < i → supporters_from e j i ≡ 0
supporters_none e j i h = rw (count_end i e.theirs h)

pub supports_few : (e : End) (j : ℕ) → length (supports e j) ≤ e.theirs
supports_few e j = omega (arith, supports_length e j, those_length (e.ok j) (count 1 e.theirs), length_count 1 e.theirs)

-- a value is fully supported exactly if as many values support it as the other box has
pub full_counted : (e : End) (j : ℕ) → full e j ≡ eqb (length (supports e j)) e.theirs
unfolding full
full_counted e j = all_those (e.ok j) (count 1 e.theirs) ∙ rw (supports_length, length_count)

-- by a number n that was counted
module _ (e : End) (j : ℕ) {n : ℕ} (counted : n ≡ length (supports e j)) where
  pub full_yes : n ≡ e.theirs → full e j ≡ true
  full_yes h = full_counted e j ∙ eq-eqb (length (supports e j)) e.theirs (sym counted ∙ h)

  pub full_no : (n ≡ e.theirs → ⊥) → full e j ≡ false
  full_no h = full_counted e j ∙ ne_eqb (length (supports e j)) e.theirs (λ q. h (counted ∙ q))

-- ---- a value's clause

module _ (e : End) (tail : Clause) (j : ℕ) where
  pub clause_none : full e j ≡ true → support_at e tail j ≡ []
  unfolding support_at
  clause_none p = rw p

  pub clause_one : full e j ≡ false → support_at e tail j ≡ (minus (value_from e.own j) ∷ (supports e j ++ tail)) ∷ []
  unfolding support_at
  clause_one p = rw p

-- ---- a tail makes each clause longer, and no clause more
