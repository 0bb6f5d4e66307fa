-- The weights of the hard part, and those of the soft part after them.
use Rattle.whole.proofs.Whole.{whole_weighed}
use Rattle.table.specs.Words.{table_of}
use Rattle.whole.proofs.weigh_all.Goals as goal

pub returns : goal.returns
returns c =
    whole_weighed c.args.part c.args.side (table_of c.args.words.now)
    c.weigh_hard-middle.ensures c.weigh_soft.ensures
