-- What the boxes ahead have is still owed.
use Rattle.wcnf_text.proofs.Texts.{boxes_all, boxes_turn, boxes_none}
use Rattle.clause.specs.Clause.{entries_of}
use Rattle.clause.specs.Hard.{box_clauses}
use Rattle.table.proofs.Words.{accepted_parts}
use Rattle.table.specs.Words.{table_of}
use lib.ListN.{length}
use lib.Seq.{length-sets}
use mathlib.Core.Path.{ap, ◌∙◌}
use native.Mathlib.Omega.{arith}
use Rattle.wcnf_text.proofs.put_boxes.Goals as goal

pub loop-b-init : goal.loop-b-init
loop-b-init c = (omega arith, omega arith, omega arith, omega arith, boxes_all c.requires.0 c.requires.1)

pub put_box-at-requires : goal.put_box-at-requires
put_box-at-requires c =
    let few = (accepted_parts c.args.words.now c.requires.0).boxes.range.1 in (
      c.requires.0,
      c.requires.1,
      (c.loop-b.invariant.0, omega (arith, c.requires.1, c.loop-b-test.true)),
      omega (arith, c.loop-b.invariant.2, c.requires.2),
      omega (arith, c.loop-b.invariant.3, c.requires.3, c.requires.1, few, c.loop-b-test.true),
    )

pub loop-b-preserved : goal.loop-b-preserved
loop-b-preserved c =
    let wrote = c.put_box-at.ensures in (
      omega arith,
      omega (arith, c.loop-b-test.true),
      ap length wrote.1 ∙ length-sets c.loop-b.clauses 0 (entries_of (box_clauses c.args.part (table_of c.args.words.now) c.loop-b.b))
          ∙ c.loop-b.invariant.2,
      omega (arith, wrote.2, c.loop-b.invariant.3, c.loop-b.invariant.0),
      boxes_turn c.loop-b.invariant.4 c.loop-b-test.true wrote.0,
    )

pub returns : goal.returns
returns c =
    let few = (accepted_parts c.args.words.now c.requires.0).boxes.range.1 in (
      boxes_none c.loop-b.invariant.4 c.loop-b-test.false,
      c.loop-b.invariant.2,
      omega (arith, c.loop-b.invariant.1, c.loop-b.invariant.3, few, c.requires.1),
    )

pub returns-2 : goal.returns-2
returns-2 c =
    let few = (accepted_parts c.args.words.now c.requires.0).boxes.range.1 in
    let wrote = c.put_box-at.ensures in (
      boxes_none (boxes_turn c.loop-b.invariant.4 c.loop-b-test.true wrote.0) (omega arith),
      ap length wrote.1 ∙ length-sets c.loop-b.clauses 0 (entries_of (box_clauses c.args.part (table_of c.args.words.now) c.loop-b.b))
          ∙ c.loop-b.invariant.2,
      omega (arith, wrote.2, c.loop-b.invariant.3, c.loop-b.invariant.0, few, c.requires.1, c.loop-b-test.true),
    )
