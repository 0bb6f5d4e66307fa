-- What is left of the entries is still owed, after the entry before.
use Rattle.wcnf.proofs.Lines.{Lined}
use Rattle.wcnf.proofs.put_lines.Given as goal

abbrev pub invariant-loop-v : goal.invariant-loop-v
invariant-loop-v l = Lined l.weight l.initial.out l.from l.part l.out l.at l.past l.v-index
