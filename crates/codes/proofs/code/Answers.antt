-- A number has a byte and a place seven: the code fits.
use native.Mathlib.Omega.{arith}
use Rattle.refusal.proofs.Numbers.{small_number}
use Rattle.codes.proofs.code.Goals as goal

pub overflow_mul-result : goal.overflow_mul-result
overflow_mul-result c = omega (arith, small_number c.args.f)

pub overflow_add-result : goal.overflow_add-result
overflow_add-result c = omega (arith, small_number c.args.f)
