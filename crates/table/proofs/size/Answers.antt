-- The word is read where sizeAt says it stands.
use lib.ListN.{get_or}
use Prim.Native.Nat.{ℕ, ◌+◌}
use mathlib.Core.Path.{ap, ◌∙◌}
use Rattle.table.proofs.size.Goals as goal

pub returns : goal.returns
returns c = c.word.ensures ∙ ap (λ (k : ℕ). get_or c.args.words.now (k + 1) 0) c.wide.ensures
