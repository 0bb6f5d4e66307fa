-- What is counted and what the pairs ahead come to make up the soft part.
use Rattle.totals.proofs.Starts.{soft_start}
use Rattle.totals.proofs.Counting.{makes_all, makes_turn, makes_none, pair_part}
use Rattle.clause.proofs.Turns.{bare_turn, soft_end}
use Rattle.clause.specs.Clause.{bare}
use Rattle.clause.specs.declared.Hard.TheVariants.{Standard}
use Rattle.table.proofs.Tables.{counted_start}
use Rattle.table.proofs.Words.{ahead_turn}
use Prim.Native.Nat.{◌+◌, ◌-◌}
use mathlib.Core.Path.{◌≡◌, ap}
use native.Mathlib.Nat.{sub-zero}
use native.Mathlib.Omega.{arith}
use Rattle.totals.proofs.soft_tally.Goals as goal

pub overflow_add-at : goal.overflow_add-at
overflow_add-at c =
    let b = counted_start c.args.words.now c.args.counts c.requires in
    omega arith

pub loop-init : goal.loop-init
loop-init c =
    let ws = c.args.words.now in
    let b = counted_start ws c.args.counts c.requires in
    (rw sub-zero b.ahead, makes_all (ap bare (soft_start Standard c.args.side ws c.args.counts c.requires)), omega arith, omega arith)

pub pair_tally-part-requires : goal.pair_tally-part-requires
pair_tally-part-requires c =
    (c.requires.table, (ahead_turn c.args.words.now c.args.counts.pairs c.loop.counter c.loop.at (omega arith) c.loop.invariant.0).0)

pub overflow_add-clauses : goal.overflow_add-clauses
overflow_add-clauses c =
    let ws = c.args.words.now in
    let b = counted_start ws c.args.counts c.requires in
    let turn = ahead_turn ws c.args.counts.pairs c.loop.counter c.loop.at (omega arith) c.loop.invariant.0 in
    let part = pair_part Standard c.args.side ws (c.loop.counter + 1) c.loop.at c.requires.table turn.0 c.pair_tally-part.ensures in
    omega arith

pub overflow_add-literals : goal.overflow_add-literals
overflow_add-literals c =
    let ws = c.args.words.now in
    let b = counted_start ws c.args.counts c.requires in
    let turn = ahead_turn ws c.args.counts.pairs c.loop.counter c.loop.at (omega arith) c.loop.invariant.0 in
    let part = pair_part Standard c.args.side ws (c.loop.counter + 1) c.loop.at c.requires.table turn.0 c.pair_tally-part.ensures in
    omega arith

pub next_pair-at-requires : goal.next_pair-at-requires
next_pair-at-requires c = (ahead_turn c.args.words.now c.args.counts.pairs c.loop.counter c.loop.at (omega arith) c.loop.invariant.0).0

pub loop-preserved : goal.loop-preserved
loop-preserved c =
    let ws = c.args.words.now in
    let turn = ahead_turn ws c.args.counts.pairs c.loop.counter c.loop.at (omega arith) c.loop.invariant.0 in
    let part = pair_part Standard c.args.side ws (c.loop.counter + 1) c.loop.at c.requires.table turn.0 c.pair_tally-part.ensures in
    let ahead = bare_turn Standard c.args.side ws c.args.counts.pairs c.loop.counter c.loop.at (omega arith) in (
      rw c.next_pair-at.ensures turn.1,
      rw c.next_pair-at.ensures (makes_turn _ part.is ahead c.loop.invariant.1),
      omega arith,
      omega arith,
    )

pub returns : goal.returns
returns c =
    let b = counted_start c.args.words.now c.args.counts c.requires in
    let z : c.args.counts.pairs - c.loop.counter ≡ 0 = omega arith in
    let end = ap bare (soft_end Standard c.args.side c.args.words.now c.args.counts.pairs c.loop.counter c.loop.at z) in
    (makes_none end c.loop.invariant.1, omega arith, omega arith)
