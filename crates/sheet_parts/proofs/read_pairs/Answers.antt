-- What is left to read gives what the whole gives.
use Rattle.sheet_parts.proofs.Steps.{rest_next, rest_bad, rest_done, paced_filed}
use Rattle.sheet_parts.proofs.Pairs.{paced_pair}
use Rattle.sheet_parts.specs.Reading.{pair_at}
use Rattle.std.proofs.lemmas.Result.{err_from_is_err_and}
use mathlib.Core.Path.{refl}
use native.Mathlib.Omega.{arith}
use Rattle.sheet_parts.proofs.read_pairs.Goals as goal

pub returns-in_err-at : goal.returns-in_err-at
returns-in_err-at c =
    let p = err_from_is_err_and c.from_residual.result c.from_residual.ensures.1 in
    rw (p.1, p.2) (rest_bad c.loop.invariant (omega arith) c.in_err-at.ensures)

pub loop-preserved : goal.loop-preserved
loop-preserved c =
    let a = c.args in
    let f = c.in_ok-at.ensures in
    let far = paced_filed (pair_at a.text.now a.sizes.now c.loop.at) 0
    (paced_pair a.text.now a.sizes.now c.loop.at c.loop.invariant.inside)
    (omega (arith, c.loop.invariant.pace)) f in
    rest_next c.loop.invariant (omega arith) f (omega arith) far.1

pub returns : goal.returns
returns c = rest_done c.loop.invariant (omega arith) refl
