-- The two words that are read are there. The check finds the rest.
use Rattle.table.proofs.Words.{accepted_parts}
use Rattle.measure.proofs.measure.Goals as goal

pub word-n-requires : goal.word-n-requires
word-n-requires c = (accepted_parts _ c.requires.table).boxes.inside

pub word-p-requires : goal.word-p-requires
word-p-requires c = (accepted_parts _ c.requires.table).pairs.inside
