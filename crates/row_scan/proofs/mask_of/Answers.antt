-- From the last value down, the mask so far is that of the values passed. The check finds the rest.
use Rattle.row_scan.proofs.Rows.{turn_bit, turn_value, turn_small, turn_fits}
use native.Mathlib.Omega.{arith}
use Rattle.row_scan.proofs.mask_of.Goals as goal

pub overflow_sub-s : goal.overflow_sub-s
overflow_sub-s c = (turn_bit c.args.s.now c.args.at c.args.m c.loop-j.j c.requires.row_stands c.loop-j-test.true c.loop-j.invariant.1).low

pub overflow_add-v : goal.overflow_add-v
overflow_add-v c =
    omega (
      arith,
      turn_fits c.args.s.now c.args.at c.args.m c.loop-j.j c.requires.row_stands c.loop-j-test.true c.loop-j.invariant.1
          c.requires.few_bits c.loop-j.v c.loop-j.invariant.2,
    )

pub loop-j-preserved : goal.loop-j-preserved
loop-j-preserved c =
    let a = c.args in
    let r = c.requires.row_stands in
    let h = c.loop-j-test.true in
    let k = c.loop-j.invariant.1 in (
      rw c.from.ensures (turn_value a.s.now a.at a.m c.loop-j.j r h k c.loop-j.v c.loop-j.invariant.0),
      omega arith,
      rw c.from.ensures (turn_small a.s.now a.at a.m c.loop-j.j r h k c.loop-j.v c.loop-j.invariant.2),
    )
