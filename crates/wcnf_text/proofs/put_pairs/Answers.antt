-- What the pairs ahead have is still owed, with whichever hard part the number of c_1 comes from.
use Rattle.wcnf_text.proofs.Texts.{shows_all, shows_turn, shows_none}
use Rattle.parts.proofs.Scratch.{asked_all, asked_now, asked_next, with_long, leaves_all, leaves_turn, leaves_none}
use Rattle.numbers.proofs.Counted.{bases_few}
use Rattle.clause.specs.Clause.{plus, minus, entries_of}
use Rattle.clause.specs.Ends.{one, two}
use Rattle.clause.specs.Soft.{soft}
use Rattle.table.proofs.Tables.{counted_start}
use Rattle.table.proofs.Words.{ahead_turn}
use Rattle.table.specs.Words.{table_of, pair_at}
use lib.ListN.{length}
use lib.Seq.{length-sets}
use Prim.Native.Nat.{◌+◌, ◌-◌}
use native.Mathlib.Nat.{sub-zero}
use native.Mathlib.Omega.{arith}
use mathlib.Core.List.{[], ◌∷◌}
use mathlib.Core.Path.{◌≡◌, ap, ◌∙◌}
use Rattle.wcnf_text.proofs.put_pairs.Goals as goal

pub loop-init : goal.loop-init
loop-init c =
    let ws = c.args.table.words.now in
    let side = c.args.side in
    let n = c.args.table.counts in
    let b = counted_start ws n c.args.table.counted in (
      omega arith,
      omega (arith, b.pairs, b.few_pairs),
      rw sub-zero b.ahead,
      omega arith,
      shows_all side ws n c.args.table.counted,
      rw (asked_all side one ws n c.args.table.counted) c.requires.0,
      rw (asked_all side two ws n c.args.table.counted) c.requires.1,
      leaves_all side one ws n c.args.table.counted _,
      leaves_all side two ws n c.args.table.counted _,
      omega arith,
      omega arith,
    )

pub put_pair-end-requires : goal.put_pair-end-requires
put_pair-end-requires c =
    let ws = c.args.table.words.now in
    let p = c.args.table.counts.pairs in
    let turn = ahead_turn ws p c.loop.counter c.loop.at c.loop-test.true c.loop.invariant.2 in
    let is = c.switch_base-switch.ensures in
    let few = bases_few ws c.args.table.counted.table c.args.part in (
      c.args.table.counted.table,
      turn.0,
      omega arith,
      omega (arith, few, is, c.loop.invariant.3, c.loop.invariant.0, c.loop.invariant.1),
      asked_now c.args.side one ws p c.loop.counter c.loop.at _ c.loop-test.true c.loop.invariant.5,
      asked_now c.args.side two ws p c.loop.counter c.loop.at _ c.loop-test.true c.loop.invariant.6,
      omega (arith, c.loop.invariant.9, c.requires.2),
      omega (arith, c.loop.invariant.10, c.loop.invariant.1, c.loop-test.true, c.requires.3),
    )

pub loop-preserved : goal.loop-preserved
loop-preserved c =
    let ws = c.args.table.words.now in
    let p = c.args.table.counts.pairs in
    let k = c.loop.counter in
    let at = c.loop.at in
    let taken = c.loop-test.true in
    let turn = ahead_turn ws p k at taken c.loop.invariant.2 in
    let side = c.args.side in
    let wrote = c.put_pair-end.ensures in
    let next = c.next_pair-at.ensures in
    let v = c.loop.switch + 1 in
    let long_first = ap length wrote.1 ∙ with_long side one (table_of ws) (pair_at ws at) _ in
    let long_second = ap length wrote.2 ∙ with_long side two (table_of ws) (pair_at ws at) _ in (
      omega (arith, taken),
      c.loop.invariant.1,
      rw next turn.1,
      omega (arith, c.loop.invariant.3),
      shows_turn side ws p k at turn.0 taken c.loop.invariant.3 next wrote.0 c.loop.invariant.4,
      rw (next, long_first) (asked_next side one ws p k at _ taken c.loop.invariant.5),
      rw (next, long_second) (asked_next side two ws p k at _ taken c.loop.invariant.6),
      leaves_turn side one ws p k at taken next wrote.1 c.loop.invariant.7,
      leaves_turn side two ws p k at taken next wrote.2 c.loop.invariant.8,
      ap length wrote.3 ∙ length-sets c.loop.clauses 0 (entries_of (soft side (table_of ws) (plus v ∷ []) (minus v ∷ []) (pair_at ws at)))
          ∙ c.loop.invariant.9,
      omega (arith, wrote.4, c.loop.invariant.10),
    )

pub returns : goal.returns
returns c =
    let ws = c.args.table.words.now in
    let p = c.args.table.counts.pairs in
    let side = c.args.side in
    let z : p - c.loop.counter ≡ 0 = omega (arith, c.loop-test.false) in (
      shows_none side ws c.args.part z c.switch_base-switch.ensures c.loop.invariant.4,
      leaves_none side one ws p c.loop.counter c.loop.at z c.loop.invariant.7,
      leaves_none side two ws p c.loop.counter c.loop.at z c.loop.invariant.8,
      omega (arith, c.loop.invariant.10, c.loop.invariant.0, c.loop.invariant.1),
    )
