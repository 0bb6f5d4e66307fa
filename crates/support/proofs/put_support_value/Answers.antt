-- A value that not all support puts its clause part by part. The check finds the rest.
use Rattle.support.proofs.Support.{value_partly, value_room}
use Rattle.support.specs.Tails.{tail_of}
use Rattle.ends.proofs.Ends.{mine_few, full_no}
use Rattle.ends.specs.Seen.{end_of}
use Rattle.lists.proofs.Stores.{wrote_append}
use native.Mathlib.Omega.{arith}
use borrow.Author.Rules.{rules}
use Rattle.support.proofs.put_support_value.Goals as goal

pub put_minus-first-requires : goal.put_minus-first-requires
put_minus-first-requires c =
    let a = c.args in
    let room = value_room a.words.now a.seen (tail_of a.tail) a.j c.supporting.result a.at c.supporting.ensures (search rules) c.requires.3 in
    (omega arith, omega (arith, c.requires.0.own, mine_few c.requires.0))

pub put_supports-second-requires : goal.put_supports-second-requires
put_supports-second-requires c =
    let a = c.args in
    let room = value_room a.words.now a.seen (tail_of a.tail) a.j c.supporting.result a.at c.supporting.ensures (search rules) c.requires.3 in
    (c.requires.0, c.requires.1, omega arith)

pub put_tail-third-requires : goal.put_tail-third-requires
put_tail-third-requires c =
    let a = c.args in
    let room = value_room a.words.now a.seen (tail_of a.tail) a.j c.supporting.result a.at c.supporting.ensures (search rules) c.requires.3 in
    (c.requires.2, omega arith)

pub put_close-requires : goal.put_close-requires
put_close-requires c =
    let a = c.args in
    let room = value_room a.words.now a.seen (tail_of a.tail) a.j c.supporting.result a.at c.supporting.ensures (search rules) c.requires.3 in
    omega arith

pub returns : goal.returns
returns c =
    let a = c.args in
    let e = end_of a.words.now a.seen in
    rw (value_partly e (tail_of a.tail) a.j (full_no e a.j c.supporting.ensures (search rules)))
    (wrote_append c.put_minus-first.ensures (wrote_append c.put_supports-second.ensures (wrote_append c.put_tail-third.ensures c.put_close.ensures)))
