-- A box's row, once stored, is no longer owed. The check finds the rest.
use Rattle.maker.proofs.Rows.{rows_owed}
use native.Mathlib.Omega.{arith}
use Rattle.maker.proofs.put_rows.Goals as goal

pub loop-b-preserved : goal.loop-b-preserved
loop-b-preserved c = (
  omega arith,
  omega (arith, c.loop-b-test.true),
  rows_owed c.args.part c.args.words.now c.args.plan.now c.word-n.result c.loop-b.b c.size-m.result c.wide.result c.word-a.result
      c.loop-b.invariant.2 c.put_row-at.ensures c.loop-b.invariant.0 (omega (arith, c.loop-b-test.true)) c.word-n.ensures c.size-m.ensures c.wide.ensures c.word-a.ensures,
)
