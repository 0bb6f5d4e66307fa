-- The clauses of the values after j are still owed. The check finds the rest.
use Rattle.direct.proofs.Direct.{direct_text}
use Rattle.ends.proofs.Texts.{turn_room, turn_part}
use Rattle.ends.specs.Seen.{end_of}
use Rattle.clause.specs.Ends.{direct_row}
use Rattle.lists.proofs.Stores.{owes_all}
use native.Mathlib.Omega.{arith}
use Rattle.direct.proofs.put_direct.Goals as goal

pub loop-j-init : goal.loop-j-init
loop-j-init c = let a = c.args in rw (direct_text (end_of a.words.now a.seen)) owes_all

pub put_row-at-requires : goal.put_row-at-requires
put_row-at-requires c =
    let a = c.args in
    let room = turn_room (direct_row (end_of a.words.now a.seen)) a.seen.mine c.loop-j.j c.loop-j.invariant (omega arith) c.requires.1 in
    (c.requires.0, (omega arith, omega arith), room)

pub loop-j-preserved : goal.loop-j-preserved
loop-j-preserved c =
    let a = c.args in
    turn_part (direct_row (end_of a.words.now a.seen)) a.seen.mine c.loop-j.j c.loop-j.invariant (omega arith) c.put_row-at.ensures
