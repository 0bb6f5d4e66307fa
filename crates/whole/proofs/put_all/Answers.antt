-- The hard part, and the soft part after it.
use Rattle.whole.proofs.Whole.{whole_put}
use Rattle.table.specs.Words.{table_of}
use Rattle.whole.proofs.put_all.Goals as goal

pub returns : goal.returns
returns c =
    let soft = c.put_soft.ensures in (
      whole_put c.args.part c.args.side (table_of c.args.words.now)
          c.put_hard-middle.ensures soft.0,
      soft.1,
      soft.2,
    )
