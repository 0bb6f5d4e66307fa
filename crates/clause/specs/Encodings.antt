-- The numbers of the hard parts and the sides: 0 and 1, and 1 to 5. Any other is refused.
use Rattle.std.specs.Prelude.{ℕ, ◌≡◌, cond, eqb, Result, Ok, Err}
use Rattle.refusal.specs.declared.Refusal.{Refusal}
use Rattle.refusal.specs.declared.Refusal.TheVariants.{Choice}
use Rattle.clause.specs.declared.Hard.{Hard}
use Rattle.clause.specs.declared.Hard.TheVariants.{Standard, Regular}
use Rattle.clause.specs.declared.Side.{Side}
use Rattle.clause.specs.declared.Side.TheVariants.{Direct, Support, First, Literals, Score}
use Rattle.clause.specs.declared.Encoding.{Encoding}

abbrev pub hard_of : ℕ → Result Hard Refusal
hard_of n = cond (eqb n 0) (Ok Standard) (cond (eqb n 1) (Ok Regular) (Err Choice))

abbrev pub side_of : ℕ → Result Side Refusal
side_of n =
    cond (eqb n 1) (Ok Direct)
    (cond (eqb n 2) (Ok Support)
    (cond (eqb n 3) (Ok First)
    (cond (eqb n 4) (Ok Literals)
    (cond (eqb n 5) (Ok Score)
    (Err Choice)))))

-- what the conversions from a number promise
abbrev pub GivesHard : ℕ → Result Hard Refusal → Type 0
GivesHard n r = r ≡ hard_of n

abbrev pub GivesSide : ℕ → Result Side Refusal → Type 0
GivesSide n r = r ≡ side_of n

abbrev pub both_of : Result Hard Refusal → Result Side Refusal → Result Encoding Refusal
both_of (Err f) s = Err f
both_of (Ok h) (Err f) = Err f
both_of (Ok h) (Ok s) = Ok (record { hard = h; side = s })

unfoldable pub picked_of : ℕ → ℕ → Result Encoding Refusal
picked_of h n = both_of (hard_of h) (side_of n)
