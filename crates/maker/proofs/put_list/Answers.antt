-- The three parts follow each other, and make up the list. The check finds the rest.
use Rattle.maker.proofs.Rows.{made_wrote}
use Rattle.table.specs.Words.{table_of}
use mathlib.Core.Path.{◌∙◌}
use Rattle.maker.proofs.put_list.Goals as goal

pub returns : goal.returns
returns c =
    let a = c.args in
    made_wrote a.hard a.side (table_of a.words.now) a.plan.now c.put_rows-thresholds.ensures c.put_thresholds-end.ensures c.put_run.ensures
    (c.wide-switches.ensures ∙ c.switch_count-count.ensures)
