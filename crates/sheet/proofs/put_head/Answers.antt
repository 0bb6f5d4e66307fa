-- Three lines after each other. The check finds that there is room.
use Rattle.lists.proofs.Stores.{wrote_append}
use Rattle.sheet.specs.Sheet.{head_text}
use Rattle.sheet.proofs.put_head.Goals as goal

pub returns : goal.returns
unfolding head_text
returns c =
    wrote_append c.put_line-one.ensures
    (wrote_append c.put_line-two.ensures c.put_line.ensures)
