-- The numbers counted are the box's own.
use Rattle.parts.proofs.Writing.{box_is}
use Rattle.numbers.proofs.Counted.{base_small, step_small}
use Rattle.clause.specs.Hard.{box_with, box_clauses}
use Rattle.table.proofs.Tables.{accepted_box}
use Rattle.table.specs.Words.{box_count, table_of}
use Rattle.table.specs.Table.{In}
use Prim.Native.Nat.{◌+◌}
use mathlib.Core.Path.{◌≡◌}
use native.Mathlib.Omega.{arith}
use Rattle.parts.proofs.put_box.Goals as goal

pub size-m-requires : goal.size-m-requires
size-m-requires c = accepted_box c.args.words.now c.args.b c.requires.0 c.requires.2

pub put_box-requires : goal.put_box-requires
put_box-requires c =
    let text_is : box_with c.args.part c.value_base-values.result c.step_base-steps.result c.size-m.result
    ≡ box_clauses c.args.part (table_of c.args.words.now) c.args.b = let B = accepted_box c.args.words.now c.args.b c.requires.0 c.requires.2 in
    box_is c.args.part c.args.words.now c.args.b _ _ _ B c.value_base-values.ensures
    c.step_base-steps.ensures c.size-m.ensures in
    let ws = c.args.words.now in
    let b = c.args.b in
    let h : In 1 (box_count ws + 1) b = (c.requires.2.0, omega (arith, c.requires.2.1)) in
    let B = accepted_box ws b c.requires.0 c.requires.2 in (
      omega (arith, c.size-m.ensures, B.values.0),
      omega (arith, c.size-m.ensures, B.values.1),
      omega (arith, c.value_base-values.ensures, base_small ws c.requires.0 b h),
      omega (arith, c.step_base-steps.ensures, step_small ws c.requires.0 b h),
      rw text_is c.requires.3,
    )

pub returns : goal.returns
returns c =
    let text_is : box_with c.args.part c.value_base-values.result c.step_base-steps.result c.size-m.result
    ≡ box_clauses c.args.part (table_of c.args.words.now) c.args.b = let B = accepted_box c.args.words.now c.args.b c.requires.0 c.requires.2 in
    box_is c.args.part c.args.words.now c.args.b _ _ _ B c.value_base-values.ensures
    c.step_base-steps.ensures c.size-m.ensures in
    rw text_is at c.put_box.ensures
