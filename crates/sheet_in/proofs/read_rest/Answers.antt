-- Each exit is one way that the pairs end.
use Rattle.sheet_in.proofs.Answers.{no_count, count_moves, pair_bad, more_text, table_short, table_full}
use Rattle.sheet_parts.proofs.Steps.{paced_filed, paced_bad}
use Rattle.sheet_parts.proofs.Pairs.{paced_pairs}
use Rattle.sheet_parts.specs.Reading.{pairs_at}
use Rattle.std.proofs.lemmas.Result.{err_from_is_err_and}
use mathlib.Core.Path.{sym, ◌∙◌}
use native.Mathlib.Omega.{arith}
use Rattle.sheet_in.proofs.read_rest.Goals as goal

pub returns-in_err-p : goal.returns-in_err-p
returns-in_err-p c =
    let a = c.args in
    let p = err_from_is_err_and c.from_residual.result c.from_residual.ensures.1 in
    rw (p.1, p.2) (no_count a.text.now a.hard a.side a.sizes.now a.at a.table.now (rw c.pairs_line.ensures at c.in_err-p.ensures.value))

pub read_pairs-requires : goal.read_pairs-requires
read_pairs-requires c =
    let far = count_moves c.args.text.now _ _ _ (sym c.pairs_line.ensures ∙ c.in_ok-p.ensures.ok_part) in
    (c.requires.0, far.1, omega (arith, c.requires.2))

pub overflow_add-result : goal.overflow_add-result
overflow_add-result c =
    let s = c.args.text.now in
    let far = count_moves s _ _ _ (sym c.pairs_line.ensures ∙ c.in_ok-p.ensures.ok_part) in
    let sizes = c.args.sizes.now in
    let last = paced_bad (pairs_at s sizes c.in_ok-p.p c.in_ok-p.from) 3 (paced_pairs s sizes c.in_ok-p.p c.in_ok-p.from far.1) (omega (arith, c.requires.2))
    c.in-Err.ensures in
    omega arith

pub overflow_add-result-then-end-text : goal.overflow_add-result-then-end-text
overflow_add-result-then-end-text c =
    let s = c.args.text.now in
    let far = count_moves s _ _ _ (sym c.pairs_line.ensures ∙ c.in_ok-p.ensures.ok_part) in
    let sizes = c.args.sizes.now in
    let last = paced_filed (pairs_at s sizes c.in_ok-p.p c.in_ok-p.from) 3 (paced_pairs s sizes c.in_ok-p.p c.in_ok-p.from far.1) (omega (arith, c.requires.2))
    c.in-Ok.ensures in
    omega arith

pub returns-then-end-text : goal.returns-then-end-text
returns-then-end-text c =
    let a = c.args in
    more_text a.text.now a.hard a.side a.sizes.now a.at (sym c.pairs_line.ensures ∙ c.in_ok-p.ensures.ok_part) a.table.now
    c.in-Ok.ensures (omega arith)

pub returns-then-table-words : goal.returns-then-table-words
returns-then-table-words c =
    let a = c.args in
    table_short a.text.now a.hard a.side a.sizes.now a.at (sym c.pairs_line.ensures ∙ c.in_ok-p.ensures.ok_part)
    a.table.now
    c.in-Ok.ensures (omega arith) (omega arith)

pub fill-requires : goal.fill-requires
fill-requires c =
    let far = count_moves c.args.text.now _ _ _ (sym c.pairs_line.ensures ∙ c.in_ok-p.ensures.ok_part) in
    (c.requires.0, far.1, omega (arith, c.requires.2))

pub returns-in-Err : goal.returns-in-Err
returns-in-Err c =
    let a = c.args in
    pair_bad a.text.now a.hard a.side a.sizes.now a.at (sym c.pairs_line.ensures ∙ c.in_ok-p.ensures.ok_part) a.table.now c.in-Err.ensures

pub returns-else-table-words : goal.returns-else-table-words
returns-else-table-words c =
    let a = c.args in
    table_full a.text.now a.hard a.side a.sizes.now a.at (sym c.pairs_line.ensures ∙ c.in_ok-p.ensures.ok_part)
    a.table.now
    c.in-Ok.ensures
    (omega (arith, c.if-end-text.false)) (omega (arith, c.if-table-words.false))
    c.fill.ensures
