-- What is counted and what the boxes ahead come to make up the hard part.
use Rattle.totals.proofs.Starts.{hard_start}
use Rattle.totals.proofs.Counting.{makes_all, makes_turn, makes_none, box_part}
use Rattle.clause.proofs.Turns.{hard_turn, hard_end}
use Rattle.table.proofs.Tables.{accepted_box}
use Rattle.table.proofs.Words.{accepted_parts}
use Rattle.table.specs.Words.{table_of}
use native.Mathlib.Omega.{arith}
use Rattle.totals.proofs.hard_tally.Goals as goal

pub overflow_add-b-end : goal.overflow_add-b-end
overflow_add-b-end c = omega (arith, (accepted_parts c.args.words.now c.requires.0).boxes.range.1)

pub loop-b-init : goal.loop-b-init
loop-b-init c = (makes_all (hard_start c.args.hard c.args.words.now c.args.n c.requires.0 c.requires.1), omega arith, omega arith)

pub size-requires : goal.size-requires
size-requires c = accepted_box c.args.words.now c.loop-b.b c.requires.0 (omega arith, omega arith)

pub box_tally-part-requires : goal.box_tally-part-requires
box_tally-part-requires c =
    let B = accepted_box c.args.words.now c.loop-b.b c.requires.0 (omega arith, omega arith) in
    (omega (arith, B.values), omega (arith, B.values))

pub overflow_add-clauses : goal.overflow_add-clauses
overflow_add-clauses c =
    let ws = c.args.words.now in
    let B = accepted_box ws c.loop-b.b c.requires.0 (omega arith, omega arith) in
    let part = box_part c.args.hard ws c.loop-b.b c.requires.0 B c.size.ensures c.box_tally-part.ensures in
    let boxes = (accepted_parts ws c.requires.0).boxes.range.1 in
    omega arith

pub overflow_add-literals : goal.overflow_add-literals
overflow_add-literals c =
    let ws = c.args.words.now in
    let B = accepted_box ws c.loop-b.b c.requires.0 (omega arith, omega arith) in
    let part = box_part c.args.hard ws c.loop-b.b c.requires.0 B c.size.ensures c.box_tally-part.ensures in
    let boxes = (accepted_parts ws c.requires.0).boxes.range.1 in
    omega arith

pub loop-b-preserved : goal.loop-b-preserved
loop-b-preserved c =
    let ws = c.args.words.now in
    let B = accepted_box ws c.loop-b.b c.requires.0 (omega arith, omega arith) in
    let part = box_part c.args.hard ws c.loop-b.b c.requires.0 B c.size.ensures c.box_tally-part.ensures in
    let turn = hard_turn c.args.hard (table_of ws) c.args.n c.loop-b.b (omega arith) in
    (makes_turn _ part.is turn c.loop-b.invariant.0, omega arith, omega arith)

pub returns : goal.returns
returns c =
    let end = hard_end c.args.hard (table_of c.args.words.now) c.args.n c.loop-b.b (omega arith) in
    let boxes = (accepted_parts c.args.words.now c.requires.0).boxes.range.1 in
    (makes_none end c.loop-b.invariant.0, omega arith, omega arith)
