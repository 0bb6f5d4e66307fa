-- The literal handed on is the one made.
use Rattle.puts.proofs.Entries.{pos_fits, passed}
use Rattle.lists.proofs.Stores.{wrote_as}
use lib.IntN.{ℤ, pos}
use mathlib.Core.List.{[], ◌∷◌}
use mathlib.Core.Path.{ap}
use Rattle.puts.proofs.put_plus.Goals as goal

pub returns : goal.returns
returns c = wrote_as (ap (λ (z : ℤ). z ∷ []) (passed (pos c.args.v) (pos_fits c.args.v c.requires.1) c.literal.ensures)) c.put.ensures
