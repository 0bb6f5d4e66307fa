-- As many weights as the pair has clauses.
use Rattle.reader.specs.declared.PairHead.{PairHead}
use Rattle.hard.specs.declared.Tally.{Tally}
use mathlib.Core.Path.{ap, ◌∙◌}
use Rattle.weights.proofs.weigh_pair.Goals as goal

pub returns : goal.returns
returns c =
    let n = ap (λ (t : Tally). t.clauses) c.pair_tally-tally.ensures in
    let w = c.wide.ensures
    ∙ ap (λ (h : PairHead). h.weight) c.pair_at-pair.ensures in
    rw (n, w) at c.put_run.ensures
