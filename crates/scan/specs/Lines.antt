-- What reading finds at a place where a key with a number is due: the number and the index past the line, or nothing, which is a fault.
use Rattle.std.specs.Prelude.{ℕ, ◌+◌, ◌-◌, ◌*◌, Bool, true, false, List, [], ◌∷◌, length, drop, eqb, leb, ltb, Option, Some, None}
use Rattle.scan.specs.Stands.{begins}

-- the number and the index past it, if the line is found
abbrev pub Line : Type 0
Line = Option (ℕ × ℕ)

-- a test that has to hold
unfoldable pub gate : Bool → Line → Line
gate true x = x
gate false x = None

unfoldable pub either : Bool → Line → Line → Line
either true x y = x
either false x y = y

-- the rest of a number whose digits so far are v, up to its closing byte, from index i on; a digit follows no 0 alone
unfoldable pub digits_at_lem : ℕ → ℕ → ℕ → ℕ → ℕ → List ℕ → Line
unfolding gate either
digits_at_lem stop low high v i [] = None
digits_at_lem stop low high v i (c ∷ l) =
    let go = digits_at_lem stop low high (v * 10 + (c - 48)) (i + 1) l in
    let step = gate (leb 48 c) (gate (leb c 57) (gate (ltb 0 v) go)) in
    gate (leb v high) (either (eqb c stop) (gate (leb low v) (Some (v, i + 1))) step)

-- a number from low to high, and the byte `stop`
unfoldable pub number_at : ℕ → ℕ → ℕ → ℕ → List ℕ → Line
unfolding gate
number_at stop low high i [] = None
number_at stop low high i (c ∷ l) = gate (leb 48 c) (gate (leb c 57) (digits_at_lem stop low high (c - 48) (i + 1) l))

-- at index i of s: the key, and then a number from low to high
unfoldable pub line_at : List ℕ → ℕ → List ℕ → ℕ → ℕ → Line
unfolding gate
line_at s i key low high = gate (begins key (drop i s)) (number_at 10 low high (i + length key) (drop (i + length key) s))

-- at index i of s: a whole line that stands for v, or else another
unfoldable pub word_at : List ℕ → ℕ → List ℕ → ℕ → Line → Line
unfolding either
word_at s i t v other = either (begins t (drop i s)) (Some (v, i + length t)) other
