-- What is summed and what the pairs ahead are charged make up the cost.
use Rattle.plan.proofs.Plans.{cost_all, charge_light}
use Rattle.plan.specs.Plan.{charge}
use Rattle.reader.specs.declared.PairHead.{PairHead}
use Rattle.table.proofs.Tables.{counted_start, sum_turn, sum_last}
use Rattle.table.proofs.Words.{ahead_turn}
use Rattle.table.specs.Words.{pair_next}
use mathlib.Core.Path.{◌≡◌, ap}
use native.Mathlib.Nat.{sub-zero}
use native.Mathlib.Omega.{arith}
use Rattle.plan.proofs.total.Goals as goal

pub overflow_add-at : goal.overflow_add-at
overflow_add-at c =
    let b = counted_start c.args.words.now c.args.counts c.requires.0 in
    omega (arith, b.boxes, b.few_boxes)

pub loop-init : goal.loop-init
loop-init c =
    let ws = c.args.words.now in
    let b = counted_start ws c.args.counts c.requires.0 in (
      omega arith,
      omega (arith, b.pairs, b.few_pairs),
      rw sub-zero b.ahead,
      rw (sub-zero, b.pairs, b.boxes) (omega (arith, cost_all ws c.args.plan.now)),
      omega arith,
    )

pub pair_at-pair-requires : goal.pair_at-pair-requires
pair_at-pair-requires c =
    let a = c.args in
    (ahead_turn a.words.now c.args.counts.pairs c.loop.counter c.loop.at (omega (arith, c.loop-test.true)) c.loop.invariant.2).0

pub charged-sum-requires : goal.charged-sum-requires
charged-sum-requires c = (
  c.requires.0.table,
  c.requires.1,
  (ahead_turn c.args.words.now c.args.counts.pairs c.loop.counter c.loop.at (omega (arith, c.loop-test.true)) c.loop.invariant.2).0,
  c.pair_at-pair.ensures,
)

pub overflow_add-sum : goal.overflow_add-sum
overflow_add-sum c =
    let S = (ahead_turn c.args.words.now c.args.counts.pairs c.loop.counter c.loop.at (omega (arith, c.loop-test.true)) c.loop.invariant.2).0 in
    omega (
      arith,
      c.charged-sum.ensures,
      charge_light c.args.words.now c.args.plan.now
          c.loop.at S,
      c.loop.invariant.1,
      c.loop.invariant.4,
      c.loop-test.true,
    )

pub loop-preserved : goal.loop-preserved
loop-preserved c =
    let ws = c.args.words.now in
    let plan = c.args.plan.now in
    let turn = ahead_turn ws c.args.counts.pairs c.loop.counter c.loop.at (omega (arith, c.loop-test.true)) c.loop.invariant.2 in
    let next : c.pair_at-pair.result.next ≡ pair_next ws c.loop.at = ap (λ (h : PairHead). h.next) c.pair_at-pair.ensures in
    let light = charge_light ws plan c.loop.at turn.0 in
    let owed = sum_turn ws (charge plan) c.args.counts.pairs c.loop.counter c.loop.at (omega (arith, c.loop-test.true)) in (
      omega (arith, c.loop-test.true),
      c.loop.invariant.1,
      rw next turn.1,
      rw next (omega (arith, owed, c.charged-sum.ensures, c.loop.invariant.3)),
      omega (arith, light, c.charged-sum.ensures, c.loop.invariant.4),
    )

pub returns : goal.returns
returns c =
    let ws = c.args.words.now in
    omega (arith, c.loop.invariant.3, sum_last ws (charge c.args.plan.now) c.args.counts.pairs c.loop.counter c.loop.at (omega arith))
