-- The entries of the characters that are left are still owed.
use Rattle.list_entries.specs.Entries.{entries_of}
use Rattle.lists.proofs.Stores.{Copied}
use Rattle.list_entries.proofs.put_list.Given as goal

abbrev pub invariant-loop-c : goal.invariant-loop-c
invariant-loop-c l = Copied l.initial.list 0 (entries_of l.characters) l.list l.at l.c-index
