-- The clauses as entries, and the lines from there.
use Rattle.wcnf_parts.proofs.Passing.{box_short, fits, passed, few, printed}
use Rattle.wcnf.proofs.Named.{hard_named}
use Rattle.table.specs.Words.{table_of}
use Rattle.clause.specs.Hard.{box_clauses}
use Rattle.wcnf_parts.proofs.put_box.Goals as goal

pub put_box-long-requires : goal.put_box-long-requires
put_box-long-requires c =
    let ws = c.args.words.now in
    let cs = box_clauses c.args.part (table_of ws) c.args.b in
    (c.requires.0, c.requires.1, c.requires.2, fits cs (box_short c.args.part ws c.args.b c.requires.0 c.requires.2))

pub put_clauses-requires : goal.put_clauses-requires
put_clauses-requires c =
    let ws = c.args.words.now in
    let cs = box_clauses c.args.part (table_of ws) c.args.b in
    passed cs (box_short c.args.part ws c.args.b c.requires.0 c.requires.2) c.put_box-long.ensures c.requires.3 c.args.at c.requires.4

pub returns : goal.returns
returns c =
    let ws = c.args.words.now in
    let cs = box_clauses c.args.part (table_of ws) c.args.b in
    let short = box_short c.args.part ws c.args.b c.requires.0 c.requires.2 in
    let put = c.put_clauses.ensures in (
      printed cs short c.put_box-long.ensures c.requires.3 c.args.top (hard_named c.args.part (table_of ws) c.args.b) put.0,
      c.put_box-long.ensures.list,
      few cs short c.put_box-long.ensures c.requires.3 c.args.at put.1,
    )
