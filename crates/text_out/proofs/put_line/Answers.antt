-- The key, the number and the line feed are put after each other. The check finds that there is room.
use Rattle.lists.proofs.Stores.{wrote_append}
use Rattle.text_out.specs.Texts.{line_of}
use Rattle.text_out.proofs.put_line.Goals as goal

pub returns : goal.returns
unfolding line_of
returns c = wrote_append c.put_all-number.ensures (wrote_append c.put_number-feed.ensures c.put.ensures)
