-- Box i is one of the table's. The check finds the rest.
use Rattle.table.proofs.Tables.{accepted_box}
use native.Mathlib.Omega.{arith}
use Rattle.numbers.proofs.value_base.Goals as goal

pub size-sum-requires : goal.size-sum-requires
size-sum-requires c = accepted_box c.args.words.now c.loop-i.i c.requires.0 (omega arith, omega arith)
