-- All is written, then the scratch slices are put in order.
use Rattle.wcnf_out.proofs.Answers.{text_written}
use Rattle.table.specs.Words.{table_of}
use Rattle.wcnf_out.proofs.write_text.Goals as goal

pub returns : goal.returns
returns c =
    let put = c.put_text-long.ensures in
    text_written c.args.e (table_of c.args.table.words.now) _ _ _ _ put.0 put.1 put.2 c.tidy.ensures c.tidy-2.ensures
