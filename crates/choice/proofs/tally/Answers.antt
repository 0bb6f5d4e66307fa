-- What is counted and the clauses of the values left come to the end's tally. The check finds the rest.
use Rattle.choice.proofs.Tallies.{shared_few, makes_all, makes_turn, makes_none}
use Rattle.ends.proofs.Ends.{theirs_few}
use Rattle.ends.specs.Seen.{end_of}
use native.Mathlib.Omega.{arith}
use Rattle.choice.proofs.tally.Goals as goal
use Rattle.choice.proofs.tally.Invariants.{so_far}

pub loop-j-init : goal.loop-j-init
loop-j-init c = let a = c.args in (omega arith, omega arith, omega arith, makes_all (end_of a.words.now a.seen))

pub loop-j-preserved : goal.loop-j-preserved
loop-j-preserved c =
    let few = shared_few (end_of c.args.words.now c.args.seen) c.loop-j.j c.share-value.result c.share-value.ensures (theirs_few c.requires).1 in
    let a = c.args in
    let sum = so_far c.loop-j.clauses c.loop-j.literals c.loop-j.score in
    let turn = makes_turn (end_of a.words.now a.seen) sum c.loop-j.j (omega arith) c.loop-j.invariant.3 in
    (omega arith, omega arith, omega arith, rw c.share-value.ensures turn)

pub returns : goal.returns
returns c =
    let a = c.args in
    makes_none (end_of a.words.now a.seen) (so_far c.loop-j.clauses c.loop-j.literals c.loop-j.score) c.loop-j.j (omega arith) c.loop-j.invariant.3
