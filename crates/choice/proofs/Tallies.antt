-- The tally of clauses: of one value's, and of all values' turn by turn.
use mathlib.Core.Path.{◌≡◌, ap, ◌∙◌}
use mathlib.Core.Bool.{true, false}
use mathlib.Core.List.{List, [], ◌∷◌, ◌++◌}
use Prim.Native.Nat.{ℕ, zero, suc, ◌+◌, ◌≤◌, ◌<◌}
use native.Mathlib.Nat.{add-zero}
use native.Mathlib.Omega.{arith}
use lib.ListN.{length, length-append}
use Rattle.lists.proofs.Lists.{sum_append}
use Rattle.lists.proofs.Truth.{test}
use Rattle.clause.specs.Clause.{Clause, literals_in}
use Rattle.clause.specs.Ends.{End, supports, full, support_at, support_clauses}
use Rattle.clause.specs.Choice.{literals_from, points, score_from}
use Rattle.ends.proofs.Values.{flat_from, flat_all, flat_turn, flat_none}
use Rattle.ends.proofs.Ends.{supports_few, clause_none, clause_one}
use Rattle.choice.specs.declared.EndTally.{EndTally}
use Rattle.choice.specs.Tally.{tally_of, end_tally}

pub points_few : (n : ℕ) → points n ≤ 16
unfolding points
points_few zero = omega arith
points_few (suc zero) = omega arith
points_few (suc (suc zero)) = omega arith
points_few (suc (suc (suc zero))) = omega arith
points_few (suc (suc (suc (suc n)))) = omega arith

-- ---- one value

pub share_full : (e : End) (j : ℕ) → full e j ≡ true → tally_of (support_at e [] j) ≡ record { clauses = 0; literals = 0; score = 0 }
unfolding literals_in
share_full e j p = rw (clause_none e [] j p)

one_clause : (c : Clause) (n : ℕ) → length c ≡ n → tally_of (c ∷ []) ≡ record { clauses = 1; literals = n; score = points n }
unfolding literals_in
one_clause c n e = simp (add-zero, e)

pub share_partly : (e : End) (j : ℕ) → full e j ≡ false
    → let long = length (supports e j) + 1 in
    tally_of (support_at e [] j) ≡ record { clauses = 1; literals = long; score = points long }
share_partly e j p = rw (clause_one e [] j p) (one_clause _ (length (supports e j) + 1) (omega (arith, length-append (supports e j) [])))

-- no value adds more
pub record Few (t : EndTally) : Type 0 where
  pub clauses : t.clauses ≤ 1
  pub literals : t.literals ≤ 17
  pub score : t.score ≤ 16

pub share_few : (e : End) (j : ℕ) → e.theirs ≤ 16 → Few (tally_of (support_at e [] j))
share_few e j h =
    test (full e j)
    (λ p. rw (share_full e j p) (record { clauses = omega arith; literals = omega arith; score = omega arith }))
    (λ p. rw (share_partly e j p) (record {
      clauses = omega arith;
      literals = omega (arith, supports_few e j);
      score = points_few (length (supports e j) + 1);
    }))

-- nor does what is known to be a value's tally
pub shared_few : (e : End) (j : ℕ) (t : EndTally) → t ≡ tally_of (support_at e [] j) → e.theirs ≤ 16 → Few t
shared_few e j t p h = rw p (share_few e j h)

-- ---- all values

-- what was counted and the clauses cs, still to be counted, come to t
pub record Makes (sum : EndTally) (cs : List Clause) (t : EndTally) : Type 0 where
  pub clauses : sum.clauses + (tally_of cs).clauses ≡ t.clauses
  pub literals : sum.literals + (tally_of cs).literals ≡ t.literals
  pub score : sum.score + (tally_of cs).score ≡ t.score

abbrev pub added : EndTally → EndTally → EndTally
added a b = record { clauses = a.clauses + b.clauses; literals = a.literals + b.literals; score = a.score + b.score }

tally_append : (cs ds : List Clause) → tally_of (cs ++ ds) ≡ added (tally_of cs) (tally_of ds)
unfolding literals_in
tally_append cs ds = rw (length-append cs ds, sum_append length cs ds, sum_append (λ c. points (length c)) cs ds)

same_tally : {a b : EndTally} → a.clauses ≡ b.clauses → a.literals ≡ b.literals → a.score ≡ b.score → a ≡ b
same_tally p q s = λ i. record { clauses = p i; literals = q i; score = s i }

module _ (e : End) where
  pub makes_all : Makes (record { clauses = 0; literals = 0; score = 0 }) (flat_from (support_at e []) e.mine 1) (end_tally e)
  unfolding end_tally literals_from score_from support_clauses
  makes_all = rw (flat_all (support_at e []) e.mine) (record { clauses = omega arith; literals = omega arith; score = omega arith })

  pub makes_turn : (sum : EndTally) (j : ℕ) → j ≤ e.mine
      → Makes sum (flat_from (support_at e []) e.mine j) (end_tally e)
      → Makes (added sum (tally_of (support_at e [] j))) (flat_from (support_at e []) e.mine (j + 1)) (end_tally e)
  makes_turn sum j h M =
      let t = ap tally_of (flat_turn (support_at e []) e.mine j h) ∙ tally_append (support_at e [] j) (flat_from (support_at e []) e.mine (j + 1)) in
      record {
        clauses = omega (arith, M.clauses, ap (λ (a : EndTally). a.clauses) t);
        literals = omega (arith, M.literals, ap (λ (a : EndTally). a.literals) t);
        score = omega (arith, M.score, ap (λ (a : EndTally). a.score) t);
      }

  pub makes_none : (sum : EndTally) (j : ℕ) → e.mine < j → Makes sum (flat_from (support_at e []) e.mine j) (end_tally e) → sum ≡ end_tally e
  unfolding literals_in
  makes_none sum j h M =
      let t = ap tally_of (flat_none (support_at e []) e.mine j h) in
      same_tally
      (omega (arith, M.clauses, ap (λ (a : EndTally). a.clauses) t))
      (omega (arith, M.literals, ap (λ (a : EndTally). a.literals) t))
      (omega (arith, M.score, ap (λ (a : EndTally). a.score) t))
