-- The box stands in the table. The check finds the rest.
use Rattle.table.proofs.Tables.{accepted_box}
use Rattle.list_boxes.proofs.box_ok.Goals as goal

pub size-requires : goal.size-requires
size-requires c = accepted_box _ _ c.requires.0 c.requires.2
