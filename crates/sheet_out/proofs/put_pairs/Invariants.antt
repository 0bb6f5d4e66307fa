-- The lines of the pairs ahead are still owed.
use Rattle.sheet_out.proofs.Parts.{Paired}
use Rattle.sheet_out.proofs.put_pairs.Given as goal

abbrev pub invariant-loop : goal.invariant-loop
invariant-loop l = Paired l.words l.initial.text l.from l.first l.p l.text l.at l.cursor l.counter
