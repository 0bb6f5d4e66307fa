-- Literals, clauses, how they are written, and their truth under a reading: a reading says of each variable's number whether it is true.
use Rattle.std.specs.Prelude.{ℕ, Bool, not, cond, ◌||◌, length, ℤ, pos, neg_ℤ, eqb}
use mathlib.Core.List.{List, [], ◌∷◌, ◌++◌, map, flat_map}
use Rattle.lists.specs.Lists.{all, any, sum_of, nth}

pub data Lit : Type 0 where
  plus minus : ℕ → Lit

-- the signed number that the document writes
abbrev pub coded : Lit → ℤ
coded (plus v) = pos v
coded (minus v) = neg_ℤ (pos v)

abbrev pub Clause : Type 0
Clause = List Lit

-- a clause with its weight, 0 for a hard one
pub record Weighted : Type 0 where
  pub weight : ℕ
  pub lits : Clause

abbrev pub weigh : ℕ → List Clause → List Weighted
weigh w cs = map (λ c. record { weight = w; lits = c }) cs

-- ---- as it is written

-- a clause closed by a 0
abbrev pub closed : Clause → List ℤ
closed c = map coded c ++ (pos 0 ∷ [])

unfoldable pub entries_of : List Clause → List ℤ
unfolding flat_map
entries_of cs = flat_map closed cs

abbrev pub bare : List Weighted → List Clause
bare ws = map (λ u. u.lits) ws

unfoldable pub entries : List Weighted → List ℤ
unfolding entries_of
entries ws = entries_of (bare ws)

unfoldable pub weights : List Weighted → List ℕ
weights ws = map (λ u. u.weight) ws

-- how many literals there are, closing zeros not counted
unfoldable pub literals_in : List Clause → ℕ
literals_in cs = sum_of length cs

-- ---- truth

abbrev pub Reading : Type 0
Reading = ℕ → Bool

abbrev pub lit_true : Reading → Lit → Bool
lit_true ν (plus v) = ν v
lit_true ν (minus v) = not (ν v)

abbrev pub clause_true : Reading → Clause → Bool
clause_true ν c = any (lit_true ν) c

abbrev pub all_true : Reading → List Clause → Bool
all_true ν cs = all (clause_true ν) cs

-- how many of the clauses are falsified
abbrev pub lost : Reading → List Clause → ℕ
lost ν cs = sum_of (λ c. cond (clause_true ν c) 0 1) cs

-- the weight of the falsified clauses
abbrev pub falsified : Reading → List Weighted → ℕ
falsified ν ws = sum_of (λ u. cond (clause_true ν u.lits) 0 u.weight) ws

-- every hard clause is true
abbrev pub hard_true : Reading → List Weighted → Bool
hard_true ν ws = all (λ u. not (eqb u.weight 0) || clause_true ν u.lits) ws

-- the reading of a list of 0 and 1: variable v stands at index v - 1
abbrev pub reads : List ℕ → Reading
reads l v = eqb (nth l v) 1
