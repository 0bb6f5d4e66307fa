-- What the boxes ahead have is still owed.
use Rattle.weights.proofs.Weighing.{box_weights, hards_all, hards_turn, hards_room, hards_none}
use Rattle.table.proofs.Tables.{accepted_box}
use native.Mathlib.Omega.{arith}
use Rattle.weights.proofs.weigh_hard.Goals as goal

pub loop-b-init : goal.loop-b-init
loop-b-init c = (omega arith, omega arith, hards_all c.requires.0 c.requires.1)

pub size-requires : goal.size-requires
size-requires c = accepted_box c.args.words.now c.loop-b.b c.requires.0 (c.loop-b.invariant.0, omega (arith, c.requires.1, c.loop-b-test.true))

pub put_run-at-requires : goal.put_run-at-requires
put_run-at-requires c =
    let count = box_weights c.args.part c.args.words.now c.requires.0 (c.loop-b.invariant.0, omega (arith, c.requires.1, c.loop-b-test.true)) c.size.ensures c.box_tally-tally.ensures in
    hards_room c.loop-b.invariant.2 c.loop-b-test.true count c.requires.2

pub loop-b-preserved : goal.loop-b-preserved
loop-b-preserved c =
    let count = box_weights c.args.part c.args.words.now c.requires.0 (c.loop-b.invariant.0, omega (arith, c.requires.1, c.loop-b-test.true)) c.size.ensures c.box_tally-tally.ensures in
    (omega arith, omega (arith, c.loop-b-test.true), hards_turn c.loop-b.invariant.2 c.loop-b-test.true count c.put_run-at.ensures)

pub returns-2 : goal.returns-2
returns-2 c =
    let count = box_weights c.args.part c.args.words.now c.requires.0 (c.loop-b.invariant.0, omega (arith, c.requires.1, c.loop-b-test.true)) c.size.ensures c.box_tally-tally.ensures in
    hards_none (hards_turn c.loop-b.invariant.2 c.loop-b-test.true count c.put_run-at.ensures) (omega arith)
