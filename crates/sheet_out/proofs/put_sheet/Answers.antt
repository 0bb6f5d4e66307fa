-- The two choices' lines and the body. The sheet of an accepted table is short.
use Rattle.sheet.specs.Sheet.{sheet_text}
use Rattle.lists.proofs.Stores.{wrote_append}
use Rattle.sheet_out.proofs.Parts.{accepted_short}
use native.Mathlib.Omega.{arith}
use Rattle.sheet_out.proofs.put_sheet.Goals as goal

pub put_hard-second-requires : goal.put_hard-second-requires
put_hard-second-requires c = omega (arith, accepted_short c.args.table.words.now c.args.encoding.hard c.args.encoding.side c.args.table.counted.table)

pub put_side-body-requires : goal.put_side-body-requires
put_side-body-requires c =
    omega (arith, c.put_hard-second.ensures.next, accepted_short c.args.table.words.now c.args.encoding.hard c.args.encoding.side c.args.table.counted.table)

pub put_body-requires : goal.put_body-requires
put_body-requires c =
    omega (arith, c.put_hard-second.ensures.next, c.put_side-body.ensures.next, accepted_short c.args.table.words.now c.args.encoding.hard c.args.encoding.side c.args.table.counted.table)

pub returns : goal.returns
unfolding sheet_text
returns c = wrote_append c.put_hard-second.ensures (wrote_append c.put_side-body.ensures c.put_body.ensures)
