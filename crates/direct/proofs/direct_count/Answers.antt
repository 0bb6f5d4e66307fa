-- What is counted and the clauses of the values left make up all of them. The check finds the rest.
use Rattle.direct.proofs.Direct.{row_split, direct_length}
use Rattle.ends.proofs.Ends.{theirs_few}
use Rattle.ends.proofs.Values.{flat_none, length_turn}
use Rattle.ends.specs.Seen.{end_of}
use Rattle.clause.specs.Ends.{direct_row}
use lib.ListN.{length}
use mathlib.Core.Path.{ap}
use native.Mathlib.Omega.{arith}
use Rattle.direct.proofs.direct_count.Goals as goal

pub loop-j-init : goal.loop-j-init
loop-j-init c = let a = c.args in (omega arith, omega (arith, direct_length (end_of a.words.now a.seen)))

pub loop-j-preserved : goal.loop-j-preserved
loop-j-preserved c =
    let a = c.args in
    let e = end_of a.words.now a.seen in
    let turn = length_turn (direct_row e) a.seen.mine c.loop-j.j (omega arith) in
    (omega (arith, c.row_count-sum.ensures, row_split e c.loop-j.j, theirs_few c.requires), omega (arith, turn, c.row_count-sum.ensures))

pub returns : goal.returns
returns c =
    let a = c.args in
    let none = ap length (flat_none (direct_row (end_of a.words.now a.seen)) a.seen.mine c.loop-j.j (omega arith)) in
    omega (arith, none)
