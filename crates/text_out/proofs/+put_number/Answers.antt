-- The digits of a tenth and then the last one. The check finds the rest.
use Rattle.lists.proofs.Stores.{wrote_append}
use Rattle.lists.proofs.Decimal.{digits_big}
use native.Mathlib.Omega.{arith}
use Rattle.text_out.proofs.+put_number.Goals as goal

pub returns : goal.returns
returns t c = rw (digits_big c.args.n (omega arith)) (wrote_append c.put_number-last.ensures c.put-2.ensures)
