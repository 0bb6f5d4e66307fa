-- The lines of the boxes that are left are still owed.
use Rattle.answer_out.specs.Answer.{value_line}
use Rattle.text_out.proofs.Listed.{Listed}
use Prim.Native.Nat.{◌+◌, ◌*◌, ◌≤◌}
use Rattle.answer_out.proofs.put_values.Given as goal

abbrev pub invariant-loop-v : goal.invariant-loop-v
invariant-loop-v l = (l.at ≤ l.from + 17 * l.v-index) × Listed value_line l.initial.out l.from l.plan l.out l.at l.v-index
