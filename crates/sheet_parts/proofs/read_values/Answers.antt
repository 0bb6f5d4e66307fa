-- What is left to read gives what the whole gives.
use Rattle.sheet_parts.proofs.Steps.{rest_next, rest_bad, rest_done, filed_one, bad_one}
use Rattle.sheet_parts.proofs.Pairs.{value_moves}
use Rattle.std.proofs.lemmas.Result.{err_from_is_err_and}
use native.Mathlib.Omega.{arith}
use mathlib.Core.Path.{sym, ◌∙◌}
use Rattle.sheet_parts.proofs.read_values.Goals as goal

pub returns-in_err-v : goal.returns-in_err-v
returns-in_err-v c =
    let p = err_from_is_err_and c.from_residual.result c.from_residual.ensures.1 in
    rw (p.1, p.2) (rest_bad c.loop-k.invariant (omega arith) (bad_one _ (rw c.values_line.ensures at c.in_err-v.ensures.value)))

pub loop-k-preserved : goal.loop-k-preserved
loop-k-preserved c =
    let e = sym c.values_line.ensures ∙ c.in_ok-v.ensures.ok_part in
    let far = value_moves c.args.text.now _ _ _ e in
    rest_next c.loop-k.invariant (omega arith) (filed_one _ e c.put.ensures.list) (omega (arith, c.loop-k.invariant.pace)) far.1

pub returns : goal.returns
returns c = rest_done c.loop-k.invariant (omega arith) (omega (arith, c.loop-k.invariant.some))
