-- What is left of the run is still owed. The check finds the rest.
use Rattle.fills.proofs.Fills.{run_turn}
use native.Mathlib.Omega.{arith}
use Rattle.fills.proofs.put_run.Goals as goal

pub loop-preserved : goal.loop-preserved
loop-preserved g c = run_turn c.loop.invariant (omega arith) c.put-at.ensures
