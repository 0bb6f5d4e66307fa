-- A line more. The check finds the rest.
use Rattle.text_out.proofs.Listed.{listed_turn}
use native.Mathlib.Omega.{arith}
use Rattle.sheet_out.proofs.put_values.Goals as goal

pub loop-m-preserved : goal.loop-m-preserved
loop-m-preserved c = listed_turn 0 c.loop-m.invariant (omega arith) c.put_size-at.ensures
