-- A table that was checked has at most 64 boxes.
use Rattle.table.proofs.Answers.{checked_accepted}
use Rattle.table.proofs.Tables.{counted_start}
use lib.Seq.{length-take-le}
use mathlib.Core.Path.{sym}
use native.Mathlib.Omega.{arith}
use Rattle.decode.proofs.print_decoded.Goals as goal

pub slice_bounds-plan-end : goal.slice_bounds-plan-end
slice_bounds-plan-end g c =
    let b = counted_start c.args.words.now _ (checked_accepted c.args.words.now (sym c.in_ok-counts.ensures)) in
    omega (arith, b.boxes, b.few_boxes, c.decode-answer.auto.plan)

pub slice_bounds-print_plan-end : goal.slice_bounds-print_plan-end
slice_bounds-print_plan-end g c =
    let b = counted_start c.args.words.now _ (checked_accepted c.args.words.now (sym c.in_ok-counts.ensures)) in
    sym (length-take-le _ _ (omega (arith, b.boxes, b.few_boxes, c.decode-answer.auto.plan)))
