-- What the pairs ahead have is still owed.
use Rattle.totals.proofs.Starts.{soft_start}
use Rattle.weights.proofs.Weighing.{weights_turn}
use Rattle.weights.specs.Weights.{pair_count}
use Rattle.clause.proofs.Turns.{soft_end}
use Rattle.clause.specs.Clause.{weights}
use Rattle.clause.specs.declared.Hard.TheVariants.{Standard}
use Rattle.table.proofs.Tables.{counted_start}
use Rattle.table.proofs.Words.{ahead_turn}
use Rattle.table.specs.Words.{pair_at}
use Rattle.lists.proofs.Stores.{owes_all, owes_part, owes_none, owes_room}
use lib.ListN.{replicate, length-replicate}
use Prim.Native.Nat.{◌-◌}
use native.Mathlib.Nat.{sub-zero}
use native.Mathlib.Omega.{arith}
use mathlib.Core.Path.{◌≡◌, ap}
use Rattle.weights.proofs.weigh_soft.Goals as goal

pub overflow_add-at : goal.overflow_add-at
overflow_add-at c =
    let b = counted_start c.args.words.now c.args.counts c.requires.0 in
    omega (arith, b.boxes, b.few_boxes)

pub loop-init : goal.loop-init
loop-init c =
    let ws = c.args.words.now in
    let b = counted_start ws c.args.counts c.requires.0 in (
      omega arith,
      omega (arith, b.pairs, b.few_pairs),
      rw sub-zero b.ahead,
      rw (soft_start Standard c.args.side ws c.args.counts c.requires.0) owes_all,
    )

pub weigh_pair-cursor-requires : goal.weigh_pair-cursor-requires
weigh_pair-cursor-requires c =
    let ws = c.args.words.now in
    let p = c.args.counts.pairs in
    let turn = ahead_turn ws p c.loop.counter c.loop.at c.loop-test.true c.loop.invariant.2 in
    let text = weights_turn c.args.side ws p c.loop.counter c.loop.at c.loop-test.true in
    let part = replicate (pair_count c.args.side ws c.loop.at) (pair_at ws c.loop.at).weight in
    let fits = owes_room part _ c.loop.invariant.3 text c.requires.1 in
    (c.requires.0.table, turn.0, omega (arith, fits, length-replicate (pair_count c.args.side ws c.loop.at) (pair_at ws c.loop.at).weight))

pub loop-preserved : goal.loop-preserved
loop-preserved c =
    let ws = c.args.words.now in
    let p = c.args.counts.pairs in
    let turn = ahead_turn ws p c.loop.counter c.loop.at c.loop-test.true c.loop.invariant.2 in
    let text = weights_turn c.args.side ws p c.loop.counter c.loop.at c.loop-test.true in (
      omega (arith, c.loop-test.true),
      c.loop.invariant.1,
      rw c.next_pair-at.ensures turn.1,
      rw c.next_pair-at.ensures (owes_part c.loop.invariant.3 text c.weigh_pair-cursor.ensures),
    )

pub returns : goal.returns
unfolding weights
returns c =
    let ws = c.args.words.now in
    let p = c.args.counts.pairs in
    let z : p - c.loop.counter ≡ 0 = omega (arith, c.loop-test.false) in
    owes_none c.loop.invariant.3 (ap weights (soft_end Standard c.args.side ws p c.loop.counter c.loop.at z))
