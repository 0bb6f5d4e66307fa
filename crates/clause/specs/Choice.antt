-- Which end the sides literals and score take, of the first box's and the second's. What builds on the choice knows only that it is one of the two:
-- `Which` says so.
use Rattle.std.specs.Prelude.{ℕ, zero, suc, cond, [], length, leb}
use Rattle.lists.specs.Lists.{sum_of}
use Rattle.clause.specs.Clause.{literals_in}
use Rattle.clause.specs.Ends.{End, Which, one, two, support_clauses}

-- how many literals an end's clauses have in all
unfoldable pub literals_from : End → ℕ
literals_from e = literals_in (support_clauses e [])

-- a clause of 1, 2 or 3 literals scores 16, 4 or 1, a longer one 0
unfoldable pub points : ℕ → ℕ
points zero = 0
points (suc zero) = 16
points (suc (suc zero)) = 4
points (suc (suc (suc zero))) = 1
points (suc (suc (suc (suc n)))) = 0

unfoldable pub score_from : End → ℕ
score_from e = sum_of (λ c. points (length c)) (support_clauses e [])

-- fewer literals; at a tie the first box
unfoldable pub by_literals : End → End → Which
by_literals a b = cond (leb (literals_from a) (literals_from b)) one two

-- the higher score; at a tie the first box
unfoldable pub by_score : End → End → Which
by_score a b = cond (leb (score_from b) (score_from a)) one two
