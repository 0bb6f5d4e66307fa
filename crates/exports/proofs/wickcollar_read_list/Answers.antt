-- The answer is taken apart, and either way what it says is known.
use Rattle.list_store.specs.Answers.{read_says}
use Rattle.exports.proofs.Told.{told_refused, told_given}
use mathlib.Core.Path.{refl, sym, ap, ◌∙◌}
use Rattle.exports.proofs.wickcollar_read_list.Goals as goal

pub returns-in-Err : goal.returns-in-Err
returns-in-Err c =
    let e = c.read_list.ensures in
    (told_refused (ap read_says (sym e.answer ∙ c.in-Err.is)) c.code.ensures refl, e.words, e.entries)

pub returns-in-Ok : goal.returns-in-Ok
returns-in-Ok c =
    let e = c.read_list.ensures in
    (told_given (ap read_says (sym e.answer ∙ c.in-Ok.is)), e.words, e.entries)
