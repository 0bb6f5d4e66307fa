-- The clauses after k are still owed. The check finds the rest.
use Rattle.standard.proofs.Texts.{text_room, text_part}
use Rattle.clause.specs.Numbers.{value_from}
use Rattle.clause.specs.Hard.{not_both}
use Prim.Native.Nat.{◌+◌}
use native.Mathlib.Omega.{arith}
use Rattle.standard.proofs.put_apart_from.Goals as goal

pub put_two-at-requires : goal.put_two-at-requires
put_two-at-requires c =
    let a = c.args in
    (omega arith, omega arith, text_room (not_both (value_from a.v) a.j) (a.m + 1) c.loop-k.k c.loop-k.invariant c.loop-k-test.true c.requires.3)

pub loop-k-preserved : goal.loop-k-preserved
loop-k-preserved c =
    let a = c.args in
    text_part (not_both (value_from a.v) a.j) (a.m + 1) c.loop-k.k c.loop-k.invariant c.loop-k-test.true c.put_two-at.ensures
