-- The two tallies are those of the ends.
use Rattle.choice.specs.Tally.{second_by}
use mathlib.Core.Path.{ap₂, ◌∙◌}
use Rattle.both_ends.proofs.takes_second.Goals as goal

pub returns : goal.returns
returns c = c.prefers_second.ensures ∙ ap₂ (second_by c.args.by_score) c.tally-first.ensures c.tally-second.ensures
