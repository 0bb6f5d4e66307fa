-- The answer is taken apart, and either way what it says is known.
use Rattle.encoder.specs.Encoded.{encoded_says}
use Rattle.exports.proofs.Told.{told_refused, told_given, as_said}
use mathlib.Core.Path.{refl, sym, ap, ◌∙◌}
use Rattle.exports.proofs.wickcollar_encode.Goals as goal

pub returns-in-Err : goal.returns-in-Err
returns-in-Err c =
    let e = c.encode.ensures in
    record { told = told_refused (ap encoded_says (sym e.answer ∙ c.in-Err.is)) c.code.ensures refl; left = as_said e }

pub returns-in-Ok : goal.returns-in-Ok
returns-in-Ok c =
    let e = c.encode.ensures in
    record { told = told_given (ap encoded_says (sym e.answer ∙ c.in-Ok.is)); left = as_said e }
