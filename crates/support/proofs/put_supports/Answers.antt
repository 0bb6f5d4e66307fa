-- The supporting values after i are still owed. The check finds the rest.
use Rattle.support.proofs.Support.{support_from, support_all, support_turn, support_none}
use Rattle.support.specs.Tails.{supporter}
use Rattle.ends.specs.Seen.{end_of}
use Rattle.clause.specs.Clause.{coded}
use Rattle.lists.proofs.Stores.{owes_all, owes_part, owes_none, owes_room}
use Prim.Native.Nat.{◌+◌}
use mathlib.Core.List.{map}
use native.Mathlib.Omega.{arith}
use Rattle.support.proofs.put_supports.Goals as goal

pub loop-i-init : goal.loop-i-init
loop-i-init c = let a = c.args in rw (support_all (end_of a.words.now a.seen) a.j) owes_all

pub put_supporter-at-requires : goal.put_supporter-at-requires
put_supporter-at-requires c =
    let a = c.args in
    let e = end_of a.words.now a.seen in
    let i = c.loop-i.i in
    let turn = support_turn e a.j i (omega arith) in
    let room = owes_room (map coded (supporter e a.j i)) (support_from e a.j (i + 1)) c.loop-i.invariant turn c.requires.2 in
    (c.requires.0, c.requires.1, (omega arith, omega arith), room)

pub loop-i-preserved : goal.loop-i-preserved
loop-i-preserved c =
    let a = c.args in
    let turn = support_turn (end_of a.words.now a.seen) a.j c.loop-i.i (omega arith) in
    owes_part c.loop-i.invariant turn c.put_supporter-at.ensures

pub returns : goal.returns
returns c =
    let a = c.args in
    owes_none c.loop-i.invariant (support_none (end_of a.words.now a.seen) a.j c.loop-i.i (omega arith))
