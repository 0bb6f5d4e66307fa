-- What is summed and the weights of the pairs ahead make up the top.
use Rattle.totals.proofs.Counting.{weight_of, top_all, weight_light}
use Rattle.reader.specs.declared.PairHead.{PairHead}
use Rattle.table.proofs.Tables.{counted_start, sum_turn, sum_last}
use Rattle.table.proofs.Words.{ahead_turn}
use Rattle.table.specs.Words.{pair_next}
use mathlib.Core.Path.{◌≡◌, sym, ap}
use native.Mathlib.Nat.{sub-zero}
use native.Mathlib.Omega.{arith}
use Rattle.totals.proofs.top_of.Goals as goal

pub overflow_add-at : goal.overflow_add-at
overflow_add-at c =
    let b = counted_start c.args.words.now c.args.counts c.requires in
    omega arith

pub loop-init : goal.loop-init
loop-init c =
    let ws = c.args.words.now in
    let b = counted_start ws c.args.counts c.requires in
    (rw sub-zero b.ahead, rw (sub-zero, b.pairs, b.boxes) (sym (top_all ws)), omega arith)

pub pair_at-pair-requires : goal.pair_at-pair-requires
pair_at-pair-requires c = (ahead_turn c.args.words.now c.args.counts.pairs c.loop.counter c.loop.at (omega arith) c.loop.invariant.0).0

pub overflow_add-sum : goal.overflow_add-sum
overflow_add-sum c =
    let ws = c.args.words.now in
    let b = counted_start ws c.args.counts c.requires in
    let turn = ahead_turn ws c.args.counts.pairs c.loop.counter c.loop.at (omega arith) c.loop.invariant.0 in
    let light = weight_light ws c.loop.at turn.0 in
    let weight = ap (λ (h : PairHead). h.weight) c.pair_at-pair.ensures in
    omega arith

pub loop-preserved : goal.loop-preserved
loop-preserved c =
    let ws = c.args.words.now in
    let turn = ahead_turn ws c.args.counts.pairs c.loop.counter c.loop.at (omega arith) c.loop.invariant.0 in
    let light = weight_light ws c.loop.at turn.0 in
    let weight = ap (λ (h : PairHead). h.weight) c.pair_at-pair.ensures in
    let next : c.pair_at-pair.result.next ≡ pair_next ws c.loop.at = ap (λ (h : PairHead). h.next) c.pair_at-pair.ensures in
    let owed = sum_turn ws weight_of c.args.counts.pairs c.loop.counter c.loop.at (omega arith) in
    (rw next turn.1, rw next (omega arith), omega arith)

pub returns : goal.returns
returns c = omega (arith, sum_last c.args.words.now weight_of c.args.counts.pairs c.loop.counter c.loop.at (omega arith))
