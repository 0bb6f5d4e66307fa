-- The longest so far and the longest ahead make the longest of all.
use Rattle.measure.proofs.Measuring.{longest_turn, longest_last, longest_all}
use Rattle.measure.specs.Measures.{which_by}
use Rattle.clause.specs.Lengths.{candidate_length_lem}
use Rattle.table.proofs.Tables.{counted_start}
use Rattle.table.proofs.Words.{ahead_turn}
use Rattle.table.specs.Words.{table_of}
use Prim.Native.Nat.{◌-◌, max}
use mathlib.Core.Path.{◌≡◌, ap, ◌∙◌}
use native.Mathlib.Nat.{sub-zero}
use native.Mathlib.Omega.{arith}
use Rattle.measure.proofs.longest_list.Goals as goal

pub overflow_add-at : goal.overflow_add-at
overflow_add-at c =
    let b = counted_start c.args.table.words.now c.args.table.counts c.args.table.counted in
    omega arith

pub loop-init : goal.loop-init
loop-init c =
    let ws = c.args.table.words.now in
    let b = counted_start ws c.args.table.counts c.args.table.counted in
    (rw sub-zero b.ahead, rw (sub-zero, b.pairs, b.boxes) (longest_all (candidate_length_lem (table_of ws) (which_by c.args.second)) ws))

pub candidate-requires : goal.candidate-requires
candidate-requires c =
    (c.args.table.counted.table, (ahead_turn c.args.table.words.now c.args.table.counts.pairs c.loop.counter c.loop.at c.loop-test.true c.loop.invariant.0).0)

pub next_pair-at-requires : goal.next_pair-at-requires
next_pair-at-requires c = (ahead_turn c.args.table.words.now c.args.table.counts.pairs c.loop.counter c.loop.at c.loop-test.true c.loop.invariant.0).0

pub loop-preserved : goal.loop-preserved
loop-preserved c =
    let ws = c.args.table.words.now in
    let p = c.args.table.counts.pairs in
    let turn = ahead_turn ws p c.loop.counter c.loop.at c.loop-test.true c.loop.invariant.0 in
    let f = candidate_length_lem (table_of ws) (which_by c.args.second) in
    let new = c.max-best.ensures ∙ ap (max c.loop.best) c.candidate.ensures in (
      rw c.next_pair-at.ensures turn.1,
      rw (c.next_pair-at.ensures, new) (longest_turn f ws p c.loop.counter c.loop.at c.loop.best _ c.loop-test.true c.loop.invariant.1),
    )

pub returns : goal.returns
returns c =
    let ws = c.args.table.words.now in
    let z : c.args.table.counts.pairs - c.loop.counter ≡ 0 = omega arith in
    longest_last (candidate_length_lem (table_of ws) (which_by c.args.second)) ws c.args.table.counts.pairs c.loop.counter c.loop.at c.loop.best _ z
    c.loop.invariant.1
