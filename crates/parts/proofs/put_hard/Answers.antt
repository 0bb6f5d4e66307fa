-- What the boxes ahead have is still owed.
use Rattle.parts.proofs.Writing.{hards_all, hards_turn, hards_none}
use native.Mathlib.Omega.{arith}
use Rattle.parts.proofs.put_hard.Goals as goal

pub loop-b-init : goal.loop-b-init
loop-b-init c = (omega arith, omega arith, hards_all c.requires.0 c.requires.1)

pub loop-b-preserved : goal.loop-b-preserved
loop-b-preserved c = (omega arith, omega (arith, c.loop-b-test.true), hards_turn c.loop-b.invariant.2 c.loop-b-test.true c.put_box-at.ensures)

pub returns-2 : goal.returns-2
returns-2 c = hards_none (hards_turn c.loop-b.invariant.2 c.loop-b-test.true c.put_box-at.ensures) (omega arith)
