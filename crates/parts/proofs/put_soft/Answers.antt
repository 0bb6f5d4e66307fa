-- What the pairs ahead have is still owed, with whichever hard part the number of c_1 comes from.
use Rattle.lists.proofs.Stores.{owes_room}
use Rattle.parts.proofs.Writing.{writes_all, writes_turn, writes_none, switched}
use Rattle.parts.proofs.Scratch.{asked_all, asked_now, asked_next, with_long, leaves_all, leaves_turn, leaves_none}
use Rattle.numbers.proofs.Counted.{bases_few}
use Rattle.clause.proofs.Turns.{soft_text}
use Rattle.clause.specs.List.{pair_clauses}
use Rattle.clause.specs.Numbers.{values, thresholds}
use Rattle.clause.specs.Ends.{one, two}
use Rattle.clause.specs.Clause.{entries_of}
use Rattle.table.proofs.Tables.{counted_start}
use Rattle.table.proofs.Words.{ahead_turn}
use Rattle.table.specs.Words.{table_of, pair_at}
use lib.ListN.{length}
use Prim.Native.Nat.{◌+◌, ◌-◌}
use native.Mathlib.Nat.{sub-zero}
use native.Mathlib.Omega.{arith}
use mathlib.Core.Path.{◌≡◌, sym, ap, ◌∙◌}
use Rattle.parts.proofs.put_soft.Goals as goal

pub loop-init : goal.loop-init
loop-init c =
    let ws = c.args.words.now in
    let side = c.args.side in
    let n = c.args.counts in
    let b = counted_start ws n c.requires.0 in (
      omega arith,
      omega (arith, b.pairs, b.few_pairs),
      rw sub-zero b.ahead,
      omega arith,
      writes_all side ws n c.requires.0,
      rw (asked_all side one ws n c.requires.0) c.requires.1,
      rw (asked_all side two ws n c.requires.0) c.requires.2,
      leaves_all side one ws n c.requires.0 _,
      leaves_all side two ws n c.requires.0 _,
    )

pub put_pair-cursor-requires : goal.put_pair-cursor-requires
put_pair-cursor-requires c =
    let ws = c.args.words.now in
    let p = c.args.counts.pairs in
    let t = table_of ws in
    let turn = ahead_turn ws p c.loop.counter c.loop.at c.loop-test.true c.loop.invariant.2 in
    let is = c.switch_base-switch.ensures in
    let few = bases_few ws c.requires.0.table c.args.part in
    let next : c.loop.switch + 1 ≡ values t + thresholds t c.args.part + (c.loop.counter + 1) = omega (arith, is, c.loop.invariant.3) in
    let text = soft_text c.args.part c.args.side ws p c.loop.counter c.loop.at c.loop-test.true in
    let fits = owes_room (entries_of (pair_clauses c.args.part c.args.side t (c.loop.counter + 1) (pair_at ws c.loop.at))) _
    (c.loop.invariant.4.owed c.args.part is) text c.requires.3 in (
      c.requires.0.table,
      turn.0,
      omega (arith, few, is, c.loop.invariant.3, c.loop.invariant.0, c.loop.invariant.1),
      asked_now c.args.side one ws p c.loop.counter c.loop.at _ c.loop-test.true c.loop.invariant.5,
      asked_now c.args.side two ws p c.loop.counter c.loop.at _ c.loop-test.true c.loop.invariant.6,
      rw (sym (switched c.args.part c.args.side t (c.loop.counter + 1) (c.loop.switch + 1) (pair_at ws c.loop.at) next)) at fits,
    )

pub loop-preserved : goal.loop-preserved
loop-preserved c =
    let ws = c.args.words.now in
    let p = c.args.counts.pairs in
    let t = table_of ws in
    let taken = c.loop-test.true in
    let turn = ahead_turn ws p c.loop.counter c.loop.at taken c.loop.invariant.2 in
    let side = c.args.side in
    let wrote = c.put_pair-cursor.ensures in
    let next = c.next_pair-at.ensures in
    let long_first = ap length wrote.1 ∙ with_long side one t (pair_at ws c.loop.at) _ in
    let long_second = ap length wrote.2 ∙ with_long side two t (pair_at ws c.loop.at) _ in (
      omega (arith, taken),
      c.loop.invariant.1,
      rw next turn.1,
      omega (arith, c.loop.invariant.3),
      writes_turn side ws p c.loop.counter c.loop.at taken c.loop.invariant.3 next wrote.0 c.loop.invariant.4,
      rw (next, long_first) (asked_next side one ws p c.loop.counter c.loop.at _ taken c.loop.invariant.5),
      rw (next, long_second) (asked_next side two ws p c.loop.counter c.loop.at _ taken c.loop.invariant.6),
      leaves_turn side one ws p c.loop.counter c.loop.at taken next wrote.1 c.loop.invariant.7,
      leaves_turn side two ws p c.loop.counter c.loop.at taken next wrote.2 c.loop.invariant.8,
    )

pub returns : goal.returns
returns c =
    let ws = c.args.words.now in
    let p = c.args.counts.pairs in
    let t = table_of ws in
    let z : p - c.loop.counter ≡ 0 = omega (arith, c.loop-test.false) in
    let side = c.args.side in (
      writes_none side ws c.args.part z c.switch_base-switch.ensures c.loop.invariant.4,
      leaves_none side one ws p c.loop.counter c.loop.at z c.loop.invariant.7,
      leaves_none side two ws p c.loop.counter c.loop.at z c.loop.invariant.8,
    )
