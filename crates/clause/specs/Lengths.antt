-- The exact lengths: those of the lists themselves. And the top of the text.
use Rattle.std.specs.Prelude.{ℕ, ◌+◌, max, List, [], ◌∷◌, length}
use Rattle.lists.specs.Lists.{sum_of}
use Rattle.table.specs.Table.{Table, Pair}
use Rattle.clause.specs.declared.Hard.{Hard}
use Rattle.clause.specs.declared.Side.{Side}
use Rattle.clause.specs.declared.Side.TheVariants.{Direct, Support, First, Literals, Score}
use Rattle.clause.specs.Clause.{entries_of, entries, literals_in, bare}
use Rattle.clause.specs.Ends.{Which, end, support_clauses}
use Rattle.clause.specs.List.{clauses}

unfoldable pub clause_count : Hard → Side → Table → ℕ
clause_count h s t = length (clauses h s t)

-- without the closing zeros, and with them
unfoldable pub literal_count : Hard → Side → Table → ℕ
literal_count h s t = literals_in (bare (clauses h s t))

unfoldable pub entry_count : Hard → Side → Table → ℕ
entry_count h s t = length (entries (clauses h s t))

-- the longest of the lists
abbrev pub longest : {A : Type 0} → (A → ℕ) → List A → ℕ
longest f [] = 0
longest f (a ∷ l) = max (f a) (longest f l)

-- a pair's candidate list from one of its ends, closing zeros included
unfoldable pub candidate_length_lem : Table → Which → Pair → ℕ
candidate_length_lem t w p = length (entries_of (support_clauses (end t p w) []))

-- what the scratch buffer of an end must hold: on the sides that choose, that end's longest list in the table
unfoldable pub scratch_length : Side → Which → Table → ℕ
scratch_length Direct w t = 0
scratch_length Support w t = 0
scratch_length First w t = 0
scratch_length Literals w t = longest (candidate_length_lem t w) t.pairs
scratch_length Score w t = longest (candidate_length_lem t w) t.pairs

-- 1 plus the sum of the weights of all pairs
unfoldable pub top : Table → ℕ
top t = 1 + sum_of (λ p. p.weight) t.pairs
