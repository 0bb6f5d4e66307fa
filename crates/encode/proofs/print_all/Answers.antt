-- Each part has its room.
use Rattle.table.proofs.Words.{accepted_parts}
use Rattle.encode.proofs.print_all.Goals as goal

pub word-n-requires : goal.word-n-requires
word-n-requires g c = (accepted_parts _ c.args.table.counted.table).boxes.inside
