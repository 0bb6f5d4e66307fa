-- The answer is taken apart, and either way what it says is known.
use Rattle.wcnf_out.specs.Written.{written_says}
use Rattle.exports.proofs.Told.{told_refused, told_given, text_as_said}
use mathlib.Core.Path.{refl, sym, ap, ◌∙◌}
use Rattle.exports.proofs.wickcollar_write_wcnf.Goals as goal

pub returns-in-Err : goal.returns-in-Err
returns-in-Err c =
    let e = c.write_wcnf.ensures in
    record { told = told_refused (ap written_says (sym e.answer ∙ c.in-Err.is)) c.code.ensures refl; left = text_as_said e }

pub returns-in-Ok : goal.returns-in-Ok
returns-in-Ok c =
    let e = c.write_wcnf.ensures in
    record { told = told_given (ap written_says (sym e.answer ∙ c.in-Ok.is)); left = text_as_said e }
