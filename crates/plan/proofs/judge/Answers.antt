-- There is a value for each box. The check finds the rest.
use Rattle.table.proofs.Tables.{table_boxes}
use native.Mathlib.Omega.{arith}
use Rattle.plan.proofs.judge.Goals as goal

pub value-requires : goal.value-requires
value-requires c =
    let n = table_boxes _ c.requires.0 in
    (c.requires.0, omega (arith, c.requires.1, c.loop-i-test.true), omega (arith, c.if-plan-n.false, c.loop-i-test.true))
