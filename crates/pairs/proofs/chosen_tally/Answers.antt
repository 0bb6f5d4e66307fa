-- The tally handed back is that of the end that is taken.
use Rattle.pairs.proofs.Sums.{chosen_tally_law}
use mathlib.Core.Bool.{true, false}
use mathlib.Core.Path.{sym, ◌∙◌}
use Rattle.pairs.proofs.chosen_tally.Goals as goal

pub returns-then-prefers_second : goal.returns-then-prefers_second
returns-then-prefers_second c =
    c.bare.ensures
    ∙ chosen_tally_law c.args.by_score _ _ c.tally-a.result c.tally-b.result true c.tally-a.ensures c.tally-b.ensures
    (sym c.if-prefers_second.true ∙ c.prefers_second.ensures)

pub returns : goal.returns
returns c =
    c.bare-2.ensures
    ∙ chosen_tally_law c.args.by_score _ _ c.tally-a.result c.tally-b.result false c.tally-a.ensures c.tally-b.ensures
    (sym c.if-prefers_second.false ∙ c.prefers_second.ensures)
