-- The characters of the values that are left are still owed.
use Rattle.row_out.proofs.Bits.{Bits}
use Rattle.row_out.proofs.put_bits.Given as goal

abbrev pub invariant-loop : goal.invariant-loop
invariant-loop l = Bits l.initial.out l.from l.m l.mask l.out l.at l.rest l.counter
