-- What reading finds where a line of the two choices, or a pair's second box, is due.
use Rattle.std.specs.Prelude.{ℕ, List, eqb, Some, None}
use Rattle.clause.specs.declared.Hard.TheVariants.{Standard, Regular}
use Rattle.clause.specs.declared.Side.TheVariants.{Direct, Support, First, Literals, Score}
use Rattle.scan.specs.Lines.{Line, either, line_at, word_at}
use Rattle.sheet.specs.Keys.{hard_line_lem, side_line_lem, second_key}

-- the number of the hard part whose line stands at index i of s
unfoldable pub hard_at : List ℕ → ℕ → Line
hard_at s i = word_at s i (hard_line_lem Standard) 0 (word_at s i (hard_line_lem Regular) 1 None)

-- the number of the side
unfoldable pub side_at : List ℕ → ℕ → Line
side_at s i =
    word_at s i (side_line_lem Direct) 1
    (word_at s i (side_line_lem Support) 2
    (word_at s i (side_line_lem First) 3
    (word_at s i (side_line_lem Literals) 4
    (word_at s i (side_line_lem Score) 5
    None))))

-- a number that was found, if it is not a
unfoldable pub other_than_lem : ℕ → Line → Line
unfolding either
other_than_lem a (Some (v, k)) = either (eqb v a) None (Some (v, k))
other_than_lem a None = None

-- a pair's second box, among n boxes and not the first, which is a
unfoldable pub second_at : List ℕ → ℕ → ℕ → ℕ → Line
second_at s n a i = other_than_lem a (line_at s i second_key 1 n)
