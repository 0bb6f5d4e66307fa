-- What is left of the source is still owed.
use Rattle.lists.proofs.Stores.{Copied}
use Rattle.stores.proofs.put_all.Given as goal

abbrev pub invariant-loop-v : goal.invariant-loop-v
invariant-loop-v g l = Copied l.initial.out l.from l.source l.out l.at l.v-index
