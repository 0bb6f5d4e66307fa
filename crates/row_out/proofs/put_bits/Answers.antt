-- A character more. The check finds the rest.
use Rattle.row_out.proofs.Bits.{bits_turn}
use native.Mathlib.Omega.{arith}
use Rattle.row_out.proofs.put_bits.Goals as goal

pub loop-preserved : goal.loop-preserved
loop-preserved c = bits_turn c.loop.invariant (omega arith) c.put-at.ensures
