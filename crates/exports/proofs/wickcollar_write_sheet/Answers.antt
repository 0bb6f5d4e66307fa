-- The answer is taken apart, and either way what it says is known.
use Rattle.sheet_out.specs.Written.{written_says}
use Rattle.exports.proofs.Told.{told_refused, told_given}
use mathlib.Core.Path.{refl, sym, ap, ◌∙◌}
use Rattle.exports.proofs.wickcollar_write_sheet.Goals as goal

pub returns-in-Err : goal.returns-in-Err
returns-in-Err c =
    let e = c.write_sheet.ensures in
    (told_refused (ap written_says (sym e.0 ∙ c.in-Err.is)) c.code.ensures refl, e.1)

pub returns-in-Ok : goal.returns-in-Ok
returns-in-Ok c =
    let e = c.write_sheet.ensures in
    (told_given (ap written_says (sym e.0 ∙ c.in-Ok.is)), e.1)
