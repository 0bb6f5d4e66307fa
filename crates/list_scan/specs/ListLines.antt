-- The list line of document 01, and where a line of a text begins.
use Rattle.std.specs.Prelude.{ℕ, suc, ◌+◌, ◌-◌, cond, ◌&&◌, List, [], ◌∷◌, ◌++◌, map, length, drop, eqb, leb}
use Rattle.scan.specs.Stands.{begins}
use Rattle.list_scan.specs.declared.ListLine.{ListLine}
use Rattle.list_scan.specs.declared.ListLine.TheVariants.{Entries, Bad, More}

-- list=
abbrev pub list_key : List ℕ
list_key = 108 ∷ 105 ∷ 115 ∷ 116 ∷ 61 ∷ []

-- ---- what is written: the characters of a list's entries, and its line

unfoldable pub characters_of : List ℕ → List ℕ
characters_of l = map (λ b. 48 + b) l

unfoldable pub list_text : List ℕ → List ℕ
list_text l = list_key ++ (characters_of l ++ (10 ∷ []))

-- ---- what is found

-- how many characters 0 or 1 stand at the start
unfoldable pub bit_count_lem : List ℕ → ℕ
bit_count_lem [] = 0
bit_count_lem (c ∷ r) = let m = suc (bit_count_lem r) in cond (leb 48 c && leb c 49) m 0

-- characters and a line feed, to the end of the text
unfoldable pub entries_found : List ℕ → ListLine
entries_found r = let m = bit_count_lem r in cond (begins (10 ∷ []) (drop m r)) (cond (leb (length r) (m + 1)) (Entries m) More) Bad

-- the key before them
unfoldable pub line_found : List ℕ → ListLine
line_found r = cond (begins list_key r) (entries_found (drop 5 r)) Bad

-- the index at which line l begins
unfoldable pub line_start_lem : ℕ → List ℕ → ℕ
line_start_lem l [] = 0
line_start_lem l (c ∷ s) = let next = suc (line_start_lem (cond (eqb c 10) (l - 1) l) s) in cond (leb l 1) 0 next
