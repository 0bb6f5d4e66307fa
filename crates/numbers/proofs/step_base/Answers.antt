-- A box has one threshold less than values, so b - 1 are missing before box b. The check finds the rest.
use Rattle.numbers.proofs.Counted.{step_base_law}
use native.Mathlib.Omega.{arith}
use Rattle.numbers.proofs.step_base.Goals as goal

pub overflow_sub-result-2 : goal.overflow_sub-result-2
overflow_sub-result-2 c =
    let e = step_base_law c.args.words.now c.requires.0 c.args.b c.requires.2 in
    omega arith
