-- The clauses of the values after j are still owed. The check finds the rest.
use Rattle.support.proofs.Support.{support_text}
use Rattle.support.specs.Tails.{tail_of}
use Rattle.ends.proofs.Texts.{turn_room, turn_part}
use Rattle.ends.specs.Seen.{end_of}
use Rattle.clause.specs.Ends.{support_at}
use Rattle.lists.proofs.Stores.{owes_all}
use native.Mathlib.Omega.{arith}
use Rattle.support.proofs.put_support.Goals as goal

pub loop-j-init : goal.loop-j-init
loop-j-init c = let a = c.args in rw (support_text (end_of a.words.now a.seen) (tail_of a.tail)) owes_all

pub put_support_value-at-requires : goal.put_support_value-at-requires
put_support_value-at-requires c =
    let a = c.args in
    let clauses = support_at (end_of a.words.now a.seen) (tail_of a.tail) in
    let room = turn_room clauses a.seen.mine c.loop-j.j c.loop-j.invariant (omega arith) c.requires.2 in
    (c.requires.0, (omega arith, omega arith), c.requires.1, room)

pub loop-j-preserved : goal.loop-j-preserved
loop-j-preserved c =
    let a = c.args in
    let clauses = support_at (end_of a.words.now a.seen) (tail_of a.tail) in
    turn_part clauses a.seen.mine c.loop-j.j c.loop-j.invariant (omega arith) c.put_support_value-at.ensures
