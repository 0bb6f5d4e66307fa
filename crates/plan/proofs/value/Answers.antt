-- Each exit is one test of value_fault.
use Rattle.plan.proofs.Plans.{value_low, value_high, none_value, size_word}
use Rattle.table.proofs.Tables.{accepted_box}
use Rattle.table.specs.Words.{table_of}
use Prim.Native.Nat.{◌+◌}
use native.Mathlib.Omega.{arith}
use Rattle.plan.proofs.value.Goals as goal

pub returns-then-v-lt1 : goal.returns-then-v-lt1
returns-then-v-lt1 c =
    let a = c.args in
    rw (value_low (table_of a.words.now) a.plan.now a.i (omega (arith, c.word-v.ensures)))

pub word-values-requires : goal.word-values-requires
word-values-requires c = omega (arith, (accepted_box c.args.words.now (c.args.i + 1) c.requires.0 (omega arith, omega (arith, c.requires.1))).inside)

pub returns-then-values-v : goal.returns-then-values-v
returns-then-values-v c =
    let a = c.args in
    let z = size_word a.words.now a.i c.requires.1 in
    rw (value_high (table_of a.words.now) a.plan.now a.i (omega (arith, c.word-v.ensures, c.if-v-lt1.false))
    (omega (arith, z, c.word-v.ensures, c.word-values.ensures, c.if-values-v.true)))

pub returns : goal.returns
returns c =
    let a = c.args in
    let z = size_word a.words.now a.i c.requires.1 in
    rw (none_value (table_of a.words.now) a.plan.now a.i
    (omega (arith, c.word-v.ensures, c.if-v-lt1.false), omega (arith, z, c.word-v.ensures, c.word-values.ensures, c.if-values-v.false)))
