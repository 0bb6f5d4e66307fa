-- What is counted and what supports among the values left make up the support. The check finds the rest.
use Rattle.ends.proofs.Ends.{supporters_all, supporters_turn}
use Rattle.ends.specs.Seen.{end_of}
use Rattle.lists.proofs.Truth.{test}
use native.Mathlib.Omega.{arith}
use Rattle.ends.proofs.supporting.Goals as goal

pub loop-i-init : goal.loop-i-init
loop-i-init c =
    let a = c.args in
    (omega arith, omega (arith, supporters_all (end_of a.words.now a.seen) a.j))

pub loop-i-preserved : goal.loop-i-preserved
loop-i-preserved c =
    let a = c.args in
    let turn = supporters_turn (end_of a.words.now a.seen) a.j c.loop-i.i (omega arith) in
    test c.goes.result
    (λ p. let one = rw p at c.from-sum.ensures in let yes = rw (← c.goes.ensures, p) at turn in (omega arith, omega arith))
    (λ p. let none = rw p at c.from-sum.ensures in let no = rw (← c.goes.ensures, p) at turn in (omega arith, omega arith))
