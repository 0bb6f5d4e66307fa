-- The key, the characters and the line feed are put after each other. The check finds that there is room.
use Rattle.lists.proofs.Stores.{wrote_append}
use Rattle.text_out.specs.Texts.{row_of}
use Rattle.row_out.proofs.put_row.Goals as goal

pub returns : goal.returns
unfolding row_of
returns c = wrote_append c.put_all-bits.ensures (wrote_append c.put_bits-end.ensures c.put.ensures)
