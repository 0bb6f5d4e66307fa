-- The literal handed on is the one made.
use Rattle.puts.proofs.Entries.{neg_fits, passed}
use Rattle.puts.specs.Signed.{neg}
use Rattle.lists.proofs.Stores.{wrote_as}
use lib.IntN.{ℤ}
use mathlib.Core.List.{[], ◌∷◌}
use mathlib.Core.Path.{ap}
use Rattle.puts.proofs.put_minus.Goals as goal

pub returns : goal.returns
returns c = wrote_as (ap (λ (z : ℤ). z ∷ []) (passed (neg c.args.v) (neg_fits c.args.v c.requires.1) c.negation.ensures)) c.put.ensures
