-- The word is read where nth says it stands.
use lib.ListN.{get_or}
use Prim.Native.Nat.{ℕ, ◌-◌}
use mathlib.Core.Path.{ap, ◌∙◌}
use Rattle.plan.proofs.value_of.Goals as goal

pub returns : goal.returns
returns c = c.word.ensures ∙ ap (λ (k : ℕ). get_or c.args.plan.now (k - 1) 0) c.wide.ensures
