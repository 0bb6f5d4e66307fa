-- The first three lines are taken one after the other, and then the rest decides.
use Rattle.sheet_in.proofs.Answers.{no_hard, no_side, no_boxes}
use Rattle.std.proofs.lemmas.Result.{err_from_is_err_and}
use mathlib.Core.Path.{sym, ◌∙◌}
use Rattle.sheet_in.proofs.read_sheet.Goals as goal

pub returns-in_err-hard : goal.returns-in_err-hard
returns-in_err-hard c =
    let a = c.args in
    let p = err_from_is_err_and c.from_residual.result c.from_residual.ensures.1 in
    rw (p.1, p.2) (no_hard a.text.now a.table.now (rw c.hard_line.ensures at c.in_err-hard.ensures.value))

pub returns-in_err-side : goal.returns-in_err-side
returns-in_err-side c =
    let a = c.args in
    let p = err_from_is_err_and c.from_residual-in_err-side.result c.from_residual-in_err-side.ensures.1 in
    rw (p.1, p.2)
    (no_side a.text.now a.table.now (sym c.hard_line.ensures ∙ c.in_ok-hard.ensures.ok_part)
    (rw c.side_line.ensures at c.in_err-side.ensures.value))

pub returns-in_err-n : goal.returns-in_err-n
returns-in_err-n c =
    let a = c.args in
    let p = err_from_is_err_and c.from_residual-in_err-n.result c.from_residual-in_err-n.ensures.1 in
    rw (p.1, p.2)
    (no_boxes a.text.now a.table.now (sym c.hard_line.ensures ∙ c.in_ok-hard.ensures.ok_part)
    (sym c.side_line.ensures ∙ c.in_ok-side.ensures.ok_part)
    (rw c.boxes_line.ensures at c.in_err-n.ensures.value))
