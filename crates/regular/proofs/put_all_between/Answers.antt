-- The clauses of the values after j are still owed. The check finds the rest.
use Rattle.standard.proofs.Texts.{texts_room, texts_part}
use Rattle.clause.specs.Numbers.{value_from, step_from}
use Rattle.clause.specs.Hard.{between}
use native.Mathlib.Omega.{arith}
use Rattle.regular.proofs.put_all_between.Goals as goal

pub put_between-at-requires : goal.put_between-at-requires
put_between-at-requires c =
    let a = c.args in
    let room = texts_room (between (value_from a.v) (step_from a.s)) a.m c.loop-j.j c.loop-j.invariant c.loop-j-test.true c.requires.4 in
    (omega arith, omega arith, c.requires.2, c.requires.3, room)

pub loop-j-preserved : goal.loop-j-preserved
loop-j-preserved c =
    let a = c.args in
    texts_part (between (value_from a.v) (step_from a.s)) a.m c.loop-j.j c.loop-j.invariant c.loop-j-test.true c.put_between-at.ensures
