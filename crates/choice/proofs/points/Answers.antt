-- The rule of the table: one test over its 18 entries, which antt computes.
use Rattle.choice.proofs.Table.{at_every}
use Rattle.clause.specs.Choice.{points}
use lib.Dec.{eqb}
use lib.ListN.{get_or}
use Prim.Native.Nat.{ℕ}
use mathlib.Core.Bool.{Bool}
use mathlib.Core.List.{List, [], ◌∷◌}
use mathlib.Core.Path.{refl}
use borrow.Author.Rules.{rules}
use borrow.Author.Tests.{eqb-true}
use Rattle.choice.proofs.points.Goals as goal

table : List ℕ
table = 0 ∷ 16 ∷ 4 ∷ 1 ∷ 0 ∷ 0 ∷ 0 ∷ 0 ∷ 0 ∷ 0 ∷ 0 ∷ 0 ∷ 0 ∷ 0 ∷ 0 ∷ 0 ∷ 0 ∷ 0 ∷ []

right : ℕ → ℕ → Bool
right long entry = eqb entry (points long)

pub returns : goal.returns
unfolding table right points
returns c = eqb-true (get_or table c.args.long 0) (points c.args.long) (at_every right table refl c.args.long (search rules))
