-- The counts, the sizes and the pairs are stored after each other.
use Rattle.sheet_parts.proofs.Steps.{all_words}
use Rattle.sheet_parts.specs.Reading.{pairs_at}
use lib.ListN.{length}
use Rattle.sheet_parts.proofs.fill.Goals as goal

pub returns : goal.returns
returns c =
    let a = c.args in
    all_words (pairs_at a.text.now a.sizes.now a.p a.from) (length a.sizes.now) a.p a.sizes.now a.table.now
    c.put.ensures.list c.put-2.ensures.list
    c.put_all-first.ensures c.read_pairs.ensures
