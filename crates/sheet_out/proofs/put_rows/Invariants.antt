-- The lines of the masks that are left are still owed.
use Rattle.text_out.specs.Texts.{row_of}
use Rattle.text_out.proofs.Listed.{Listed}
use Rattle.sheet.specs.Keys.{allow_key}
use Rattle.sheet_out.proofs.put_rows.Given as goal

abbrev pub invariant-loop-mask : goal.invariant-loop-mask
invariant-loop-mask l = Listed (row_of allow_key l.m) l.initial.text l.from l.masks l.text l.at l.mask-index
