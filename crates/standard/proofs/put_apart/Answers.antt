-- The clauses of the values after j are still owed. The check finds the rest.
use Rattle.standard.proofs.Texts.{texts_room, texts_part}
use Rattle.standard.specs.Writers.{apart_from}
use Rattle.clause.specs.Numbers.{value_from}
use Prim.Native.Nat.{◌+◌}
use native.Mathlib.Omega.{arith}
use Rattle.standard.proofs.put_apart.Goals as goal

pub put_apart_from-at-requires : goal.put_apart_from-at-requires
put_apart_from-at-requires c =
    let a = c.args in
    let room = texts_room (apart_from (value_from a.v) a.m) (a.m + 1) c.loop-j.j c.loop-j.invariant c.loop-j-test.true c.requires.2 in
    (omega arith, c.requires.0, c.requires.1, room)

pub loop-j-preserved : goal.loop-j-preserved
loop-j-preserved c =
    let a = c.args in
    texts_part (apart_from (value_from a.v) a.m) (a.m + 1) c.loop-j.j c.loop-j.invariant c.loop-j-test.true c.put_apart_from-at.ensures
