-- One pair after the other.
use Rattle.numbers.proofs.Counted.{bases_few}
use Rattle.table.proofs.Tables.{counted_start}
use Rattle.table.proofs.Words.{ahead_turn, accepted_parts}
use native.Mathlib.Nat.{sub-zero}
use Prim.Native.Nat.{◌≤◌}
use native.Mathlib.Omega.{arith}
use borrow.Author.Rules.{rules}
use Rattle.encode.proofs.print_pairs.Goals as goal

pub word-n-requires : goal.word-n-requires
word-n-requires g c = (accepted_parts _ c.args.table.counted.table).boxes.inside

pub overflow_add-at : goal.overflow_add-at
overflow_add-at g c =
    let b = counted_start c.args.table.words.now c.args.table.counts c.args.table.counted in
    omega (arith, b.boxes, b.few_boxes)

pub loop-init : goal.loop-init
loop-init g c =
    let b = counted_start c.args.table.words.now c.args.table.counts c.args.table.counted in
    (omega arith, omega (arith, b.pairs, b.few_pairs), rw sub-zero b.ahead, omega arith, c.requires.3)

pub overflow_add-switch : goal.overflow_add-switch
overflow_add-switch g c =
    let few = bases_few c.args.table.words.now c.args.table.counted.table c.args.part in
    omega (arith, few, c.switch_base-switch.ensures, c.loop.invariant.3, c.loop.invariant.0, c.loop.invariant.1)

pub print_pair-requires : goal.print_pair-requires
print_pair-requires g c =
    let ws = c.args.table.words.now in
    let turn = ahead_turn ws c.args.table.counts.pairs c.loop.counter c.loop.at c.loop-test.true c.loop.invariant.2 in
    let few = bases_few ws c.args.table.counted.table c.args.part in (
      c.args.table.counted.table,
      turn.0,
      omega arith,
      omega (arith, few, c.switch_base-switch.ensures, c.loop.invariant.3, c.loop.invariant.0, c.loop.invariant.1),
      search rules,
      search rules,
      search rules,
      c.loop.invariant.4,
    )

pub loop-preserved : goal.loop-preserved
loop-preserved g c =
    let end : c.in_ok-end.end ≤ 65536 = search rules in
    let turn = ahead_turn c.args.table.words.now c.args.table.counts.pairs c.loop.counter c.loop.at c.loop-test.true c.loop.invariant.2 in (
      omega (arith, c.loop-test.true),
      c.loop.invariant.1,
      rw c.next_pair-at.ensures turn.1,
      omega (arith, c.loop.invariant.3),
      end,
    )
