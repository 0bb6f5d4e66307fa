-- The literals after j and the closing 0 are still owed. The check finds the rest.
use Rattle.standard.proofs.Texts.{values_turn}
use Rattle.lists.proofs.Stores.{owes_part}
use Rattle.clause.specs.Numbers.{value_from}
use Prim.Native.Nat.{◌+◌}
use Rattle.standard.proofs.put_one_of.Goals as goal

pub loop-j-preserved : goal.loop-j-preserved
loop-j-preserved c =
    let a = c.args in
    owes_part c.loop-j.invariant (values_turn (value_from a.v) (a.m + 1) c.loop-j.j c.loop-j-test.true) c.put_plus-at.ensures
