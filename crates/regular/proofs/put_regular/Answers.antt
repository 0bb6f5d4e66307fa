-- From two values on come the chain, the lowest value, those between and the highest. The check finds the rest.
use Rattle.regular.proofs.Pieces.{regular_text}
use Rattle.lists.proofs.Stores.{wrote_append}
use Rattle.clause.specs.Numbers.{value_from, step_from}
use native.Mathlib.Omega.{arith}
use Rattle.regular.proofs.put_regular.Goals as goal

pub returns : goal.returns
returns c =
    let a = c.args in
    rw (regular_text (value_from a.v) (step_from a.s) a.m (omega arith))
    (wrote_append c.put_chain-lowest.ensures (wrote_append c.put_lowest-between.ensures (wrote_append c.put_all_between-highest.ensures c.put_highest.ensures)))
