-- WCNF text in the classic form: a header, then a line for each clause of the clause list.
use Rattle.std.specs.Prelude.{ℕ, zero, suc}
use mathlib.Core.List.{List, [], ◌∷◌, ◌++◌, flat_map}
use Rattle.lists.specs.Decimal.{digits, signed}
use Rattle.table.specs.Table.{Table}
use Rattle.clause.specs.declared.Hard.{Hard}
use Rattle.clause.specs.declared.Side.{Side}
use Rattle.clause.specs.Clause.{Lit, coded, Clause, Weighted}
use Rattle.clause.specs.Numbers.{variables}
use Rattle.clause.specs.List.{clauses}
use Rattle.clause.specs.Lengths.{clause_count, top}

-- the letters of "p wcnf" and a space
abbrev pub header_key : List ℕ
header_key = 112 ∷ 32 ∷ 119 ∷ 99 ∷ 110 ∷ 102 ∷ 32 ∷ []

-- a number and the byte that ends it: a space is 32, a line feed 10
unfoldable pub ended : ℕ → ℕ → List ℕ
ended n b = digits n ++ (b ∷ [])

-- p wcnf V C T: variables, clauses and top
unfoldable pub header_text : ℕ → ℕ → ℕ → List ℕ
header_text v c t = header_key ++ (ended v 32 ++ (ended c 32 ++ ended t 10))

-- a literal, after a space
unfoldable pub literal_text : Lit → List ℕ
literal_text l = 32 ∷ signed (coded l)

-- a clause: its weight, its literals and 0, one space between, and a line feed
unfoldable pub clause_line : ℕ → Clause → List ℕ
unfolding flat_map
clause_line w c = digits w ++ (flat_map literal_text c ++ (32 ∷ 48 ∷ 10 ∷ []))

-- clauses of one weight
unfoldable pub lines_of : ℕ → List Clause → List ℕ
unfolding flat_map
lines_of w cs = flat_map (clause_line w) cs

-- the weight that is shown, where `t` is the top: a hard clause, which has weight 0, shows that
abbrev pub shown : ℕ → ℕ → ℕ
shown t zero = t
shown t (suc w) = suc w

unfoldable pub body_text : ℕ → List Weighted → List ℕ
unfolding flat_map
body_text t us = flat_map (λ u. clause_line (shown t u.weight) u.lits) us

unfoldable pub wcnf_text : Hard → Side → Table → List ℕ
wcnf_text h s t = header_text (variables t h s) (clause_count h s t) (top t) ++ body_text (top t) (clauses h s t)
