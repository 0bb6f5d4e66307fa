-- Each exit is one line of the definition.
use Rattle.sheet_parts.proofs.Pairs.{no_first, no_second, no_weight, pair_rows}
use Rattle.std.proofs.lemmas.Result.{err_from_is_err_and}
use mathlib.Core.Path.{sym, ◌∙◌}
use Rattle.sheet_parts.proofs.read_pair.Goals as goal

pub returns-in_err-first : goal.returns-in_err-first
returns-in_err-first c =
    let a = c.args in
    let p = err_from_is_err_and c.from_residual.result c.from_residual.ensures.1 in
    rw (p.1, p.2)
    (no_first a.text.now a.sizes.now a.at a.word a.table.now (rw c.first_line.ensures at c.in_err-first.ensures.value))

pub returns-in_err-second : goal.returns-in_err-second
returns-in_err-second c =
    let a = c.args in
    let p = err_from_is_err_and c.from_residual-in_err-second.result c.from_residual-in_err-second.ensures.1 in
    rw (p.1, p.2)
    (no_second a.text.now a.sizes.now a.at a.word a.table.now
    (sym c.first_line.ensures ∙ c.in_ok-first.ensures.ok_part)
    c.put.ensures.list
    (rw c.second_line.ensures at c.in_err-second.ensures.value))

pub returns-in_err-weight : goal.returns-in_err-weight
returns-in_err-weight c =
    let a = c.args in
    let p = err_from_is_err_and c.from_residual-in_err-weight.result c.from_residual-in_err-weight.ensures.1 in
    rw (p.1, p.2)
    (no_weight a.text.now a.sizes.now a.at a.word a.table.now
    (sym c.first_line.ensures ∙ c.in_ok-first.ensures.ok_part)
    c.put.ensures.list
    (sym c.second_line.ensures ∙ c.in_ok-second.ensures.ok_part)
    c.put-2.ensures.list
    (rw c.weight_line.ensures at c.in_err-weight.ensures.value))

pub returns : goal.returns
returns c =
    let a = c.args in
    pair_rows a.text.now a.sizes.now a.at a.word a.table.now
    (sym c.first_line.ensures ∙ c.in_ok-first.ensures.ok_part)
    c.put.ensures.list
    (sym c.second_line.ensures ∙ c.in_ok-second.ensures.ok_part)
    c.put-2.ensures.list
    (sym c.weight_line.ensures ∙ c.in_ok-weight.ensures.ok_part)
    c.put-3.ensures.list
    (rw (c.size_of-m.ensures, c.size_of-count.ensures) at
    c.read_rows.ensures)
