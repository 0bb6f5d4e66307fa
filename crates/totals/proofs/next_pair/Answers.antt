-- The head that was read has the next cursor.
use Rattle.reader.specs.declared.PairHead.{PairHead}
use mathlib.Core.Path.{ap}
use Rattle.totals.proofs.next_pair.Goals as goal

pub returns : goal.returns
returns c = ap (λ (h : PairHead). h.next) c.pair_at-pair.ensures
