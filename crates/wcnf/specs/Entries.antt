-- The lines of clauses as they stand in a clause list, each closed by a 0.
use Rattle.std.specs.Prelude.{ℕ, zero, suc, List, [], ◌∷◌, ◌++◌, ℤ, pos, negsuc}
use Rattle.lists.specs.Decimal.{digits, signed}

-- a minus sign before a negative number
abbrev pub sign : ℤ → List ℕ
sign (pos v) = []
sign (negsuc v) = 45 ∷ []

-- an entry after its space: a literal, or the 0 that closes its clause and ends the line
abbrev pub ending : ℤ → List ℕ
ending (pos zero) = 48 ∷ 10 ∷ []
ending (pos (suc v)) = signed (pos (suc v))
ending (negsuc v) = signed (negsuc v)

-- what goes before an entry that follows the entry v: the weight if v closes the clause before
abbrev pub opening : ℕ → ℤ → List ℕ
opening w (pos zero) = digits w
opening w (pos (suc v)) = []
opening w (negsuc v) = []

-- an entry that follows the entry `past`
abbrev pub entry_text : ℕ → (past v : ℤ) → List ℕ
entry_text w past v = opening w past ++ (32 ∷ ending v)

abbrev pub entries_from : ℕ → (past : ℤ) → List ℤ → List ℕ
entries_from w past [] = []
entries_from w past (v ∷ vs) = entry_text w past v ++ entries_from w v vs

-- a clause list begins as after a 0
unfoldable pub entries_text : ℕ → List ℤ → List ℕ
entries_text w vs = entries_from w (pos 0) vs
