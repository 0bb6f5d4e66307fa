-- The answer is taken apart, and either way what it says is known.
use Rattle.measure.specs.Measures.{needed_says}
use Rattle.exports.proofs.Told.{told_refused, told_given}
use mathlib.Core.Path.{refl, sym, ap, ◌∙◌}
use Rattle.exports.proofs.wickcollar_scratch_lengths.Goals as goal

pub returns-in-Err : goal.returns-in-Err
returns-in-Err c =
    let e = c.scratch_lengths.ensures in
    told_refused (ap needed_says (sym e ∙ c.in-Err.is)) c.code.ensures refl

pub returns-in-Ok : goal.returns-in-Ok
returns-in-Ok c =
    let e = c.scratch_lengths.ensures in
    told_given (ap needed_says (sym e ∙ c.in-Ok.is))
