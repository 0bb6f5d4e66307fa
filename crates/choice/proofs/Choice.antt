-- The two choices go by the two ends' tallies alone. No other file opens them.
use mathlib.Core.Path.{◌≡◌, refl, ap, ◌∙◌}
use mathlib.Core.Bool.{Bool, true, false, cond}
use Prim.Native.Nat.{ℕ}
use lib.Dec.{ltb, leb}
use borrow.Author.Tests.{lt-ltb, le-ltb, le-leb, lt-leb}
use Rattle.lists.proofs.Truth.{order}
use Rattle.clause.specs.Ends.{End, Which, one, two}
use Rattle.clause.specs.Choice.{literals_from, score_from, by_literals, by_score}
use Rattle.clause.specs.Soft.{pick}
use Rattle.choice.specs.Tally.{end_tally, second_by}

abbrev which_of : Bool → Which
which_of second = cond second two one

not_less : (a b : ℕ) → cond (leb a b) one two ≡ which_of (ltb b a)
not_less a b = order a b (λ h. rw (le-leb a b h, le-ltb b a h)) (λ h. rw (lt-leb a b h, lt-ltb b a h))

by_literals_lem : (a b : End) → by_literals a b ≡ which_of (second_by false (end_tally a) (end_tally b))
unfolding by_literals end_tally
by_literals_lem a b = not_less (literals_from a) (literals_from b)

by_score_lem : (a b : End) → by_score a b ≡ which_of (second_by true (end_tally a) (end_tally b))
unfolding by_score end_tally
by_score_lem a b = not_less (score_from b) (score_from a)

picks : (second : Bool) (a b : End) → pick (which_of second) a b ≡ cond second b a
picks true a b = refl
picks false a b = refl

pub literals_picks : (a b : End) → pick (by_literals a b) a b ≡ cond (second_by false (end_tally a) (end_tally b)) b a
literals_picks a b = ap (λ (w : Which). pick w a b) (by_literals_lem a b) ∙ picks (second_by false (end_tally a) (end_tally b)) a b

pub score_picks : (a b : End) → pick (by_score a b) a b ≡ cond (second_by true (end_tally a) (end_tally b)) b a
score_picks a b = ap (λ (w : Which). pick w a b) (by_score_lem a b) ∙ picks (second_by true (end_tally a) (end_tally b)) a b
