-- What is left to read gives what the whole gives.
use Rattle.sheet_parts.proofs.Steps.{rest_next, rest_bad, rest_done, filed_one, bad_one}
use Rattle.sheet_parts.proofs.Pairs.{row_moves}
use Rattle.std.proofs.lemmas.Result.{err_from_is_err_and}
use native.Mathlib.Omega.{arith}
use mathlib.Core.Path.{refl, sym, ◌∙◌}
use Rattle.sheet_parts.proofs.read_rows.Goals as goal

pub returns-in_err-v : goal.returns-in_err-v
returns-in_err-v c =
    let p = err_from_is_err_and c.from_residual.result c.from_residual.ensures.1 in
    rw (p.1, p.2) (rest_bad c.loop.invariant (omega arith) (bad_one _ (rw c.allow_line.ensures at c.in_err-v.ensures.value)))

pub loop-preserved : goal.loop-preserved
loop-preserved c =
    let a = c.args in
    let e = sym c.allow_line.ensures ∙ c.in_ok-v.ensures.ok_part in
    let far = row_moves a.text.now a.m _ _ _ e in
    rw c.put-word.ensures.next (rest_next c.loop.invariant (omega arith) (filed_one _ e c.put-word.ensures.list) (omega (arith, c.loop.invariant.pace)) far.1)

pub returns : goal.returns
returns c = rest_done c.loop.invariant (omega arith) refl
