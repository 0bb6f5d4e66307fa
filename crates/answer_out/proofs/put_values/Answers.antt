-- A line more, of at most 17 bytes. The check finds the rest.
use Rattle.text_out.proofs.Listed.{listed_turn}
use native.Mathlib.Omega.{arith}
use Rattle.answer_out.proofs.put_values.Goals as goal

pub loop-v-preserved : goal.loop-v-preserved
loop-v-preserved c =
    let w = c.put_value-at.ensures in
    (omega (arith, c.loop-v.invariant.0, w.1), listed_turn 0 c.loop-v.invariant.1 (omega arith) w.0)
