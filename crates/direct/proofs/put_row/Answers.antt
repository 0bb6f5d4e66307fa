-- The clauses of value j with the other box's values after i are still owed. The check finds the rest.
use Rattle.direct.proofs.Direct.{row_text}
use Rattle.ends.proofs.Texts.{turn_room, turn_part}
use Rattle.ends.specs.Seen.{end_of}
use Rattle.clause.specs.Ends.{direct_at}
use Rattle.lists.proofs.Stores.{owes_all}
use native.Mathlib.Omega.{arith}
use Rattle.direct.proofs.put_row.Goals as goal

pub loop-i-init : goal.loop-i-init
loop-i-init c = let a = c.args in rw (row_text (end_of a.words.now a.seen) a.j) owes_all

pub put_forbidden-at-requires : goal.put_forbidden-at-requires
put_forbidden-at-requires c =
    let a = c.args in
    let room = turn_room (direct_at (end_of a.words.now a.seen) a.j) a.seen.theirs c.loop-i.i c.loop-i.invariant (omega arith) c.requires.2 in
    (c.requires.0, c.requires.1, (omega arith, omega arith), room)

pub loop-i-preserved : goal.loop-i-preserved
loop-i-preserved c =
    let a = c.args in
    turn_part (direct_at (end_of a.words.now a.seen) a.j) a.seen.theirs c.loop-i.i c.loop-i.invariant (omega arith) c.put_forbidden-at.ensures
