-- The number, and the byte after it.
use Rattle.lists.proofs.Stores.{wrote_append}
use Rattle.wcnf_header.proofs.Header.{length_ended}
use Rattle.wcnf.specs.Wcnf.{ended}
use native.Mathlib.Omega.{arith}
use Rattle.wcnf_header.proofs.put_ended.Goals as goal

pub put_number-end-requires : goal.put_number-end-requires
put_number-end-requires c = let a = c.args in omega (arith, length_ended a.n a.b, c.requires)

pub put-requires : goal.put-requires
put-requires c = omega (arith, length_ended c.args.n c.args.b, c.requires, c.put_number-end.ensures.next)

pub returns : goal.returns
unfolding ended
returns c = wrote_append c.put_number-end.ensures c.put.ensures
