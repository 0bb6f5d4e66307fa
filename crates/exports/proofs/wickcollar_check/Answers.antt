-- The answer is taken apart, and either way what it says is known.
use Rattle.table.specs.Answers.{checked_says}
use Rattle.exports.proofs.Told.{told_refused, told_given}
use mathlib.Core.Path.{refl, sym, ap, ◌∙◌}
use Rattle.exports.proofs.wickcollar_check.Goals as goal

pub returns-in-Err : goal.returns-in-Err
returns-in-Err c =
    let e = c.check.ensures in
    told_refused (ap checked_says (sym e ∙ c.in-Err.is)) c.code.ensures refl

pub returns-in-Ok : goal.returns-in-Ok
returns-in-Ok c =
    let e = c.check.ensures in
    told_given (ap checked_says (sym e ∙ c.in-Ok.is))
