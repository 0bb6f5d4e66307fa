-- The entries of the characters that are left are still owed. The check finds the rest.
use Rattle.list_entries.proofs.Entries.{entries_turn}
use native.Mathlib.Omega.{arith}
use Rattle.list_entries.proofs.put_list.Goals as goal

pub loop-c-preserved : goal.loop-c-preserved
loop-c-preserved c = entries_turn c.args.characters.now c.loop-c.invariant (omega arith) c.entry_of.ensures c.put-at.ensures
