-- The answer is taken apart, and either way what it says is known.
use Rattle.decoder.specs.Answers.{decoded_says}
use Rattle.exports.proofs.Told.{told_refused, told_given}
use mathlib.Core.Path.{refl, sym, ap, ◌∙◌}
use Rattle.exports.proofs.wickcollar_decode.Goals as goal

pub returns-in-Err : goal.returns-in-Err
returns-in-Err c =
    let e = c.decode.ensures in
    (told_refused (ap decoded_says (sym e.0 ∙ c.in-Err.is)) c.code.ensures refl, e.1)

pub returns-in-Ok : goal.returns-in-Ok
returns-in-Ok c =
    let e = c.decode.ensures in
    (told_given (ap decoded_says (sym e.0 ∙ c.in-Ok.is)), e.1)
