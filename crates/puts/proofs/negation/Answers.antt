-- The difference from 0 fits, and is the negation.
use Rattle.puts.proofs.Entries.{neg_fits, negated}
use Rattle.puts.specs.Signed.{neg}
use mir.Syntax.{w32}
use mir.Val.{SFits, to_z, of_z}
use mir.ValLaws.{to_z-of_z}
use lib.IntN.{ℤ}
use mathlib.Core.Path.{sym, ap, subst, ◌∙◌}
use Rattle.puts.proofs.negation.Goals as goal

pub overflow_sub-result : goal.overflow_sub-result
overflow_sub-result c = subst (SFits w32) (sym (negated c.args.v c.requires)) (neg_fits c.args.v c.requires)

pub returns : goal.returns
returns c =
    ap (λ (z : ℤ). to_z w32 (of_z w32 z)) (negated c.args.v c.requires)
    ∙ to_z-of_z w32 (neg c.args.v) (neg_fits c.args.v c.requires)
