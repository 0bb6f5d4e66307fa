-- The answer is taken apart, and either way what it says is known.
use Rattle.measure.specs.Measures.{measured_says}
use Rattle.exports.proofs.Told.{told_refused, told_given}
use mathlib.Core.Path.{refl, sym, ap, ◌∙◌}
use Rattle.exports.proofs.wickcollar_lengths.Goals as goal

pub returns-in-Err : goal.returns-in-Err
returns-in-Err c =
    let e = c.exact_lengths.ensures in
    told_refused (ap measured_says (sym e ∙ c.in-Err.is)) c.code.ensures refl

pub returns-in-Ok : goal.returns-in-Ok
returns-in-Ok c =
    let e = c.exact_lengths.ensures in
    told_given (ap measured_says (sym e ∙ c.in-Ok.is))
