-- All is written, then the scratch slices are put in order.
use Rattle.clauses_out.proofs.Listed.{all_written}
use Rattle.table.specs.Words.{table_of}
use Rattle.clauses_out.proofs.write_all.Goals as goal

pub returns : goal.returns
returns c =
    let put = c.put_all-entries.ensures in
    all_written c.args.e (table_of c.args.words.now) _ _ _ _ put.0
    c.weigh_all-count.ensures put.1 put.2
    c.tidy.ensures c.tidy-2.ensures
