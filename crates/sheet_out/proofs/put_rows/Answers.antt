-- A line more. The check finds the rest.
use Rattle.text_out.proofs.Listed.{listed_turn}
use native.Mathlib.Omega.{arith}
use Rattle.sheet_out.proofs.put_rows.Goals as goal

pub loop-mask-preserved : goal.loop-mask-preserved
loop-mask-preserved c = listed_turn 0 c.loop-mask.invariant (omega arith) c.put_allow-at.ensures
