-- What is left of the run is still owed.
use Rattle.fills.proofs.Fills.{Running}
use Rattle.fills.proofs.put_run.Given as goal

abbrev pub invariant-loop : goal.invariant-loop
invariant-loop g l = Running l.initial.out l.from l.v l.count l.out l.at l.counter
