-- What the entries ahead give is what all of them give.
use Rattle.list_judge.specs.Faults.{entry_fault, entries_fault}
use Rattle.lists.specs.Firsts.{first_of}
use lib.ListN.{length}
use Prim.Native.Nat.{◌+◌, ◌-◌, ◌≤◌}
use mathlib.Core.Path.{◌≡◌}
use Rattle.list_judge.proofs.entries.Given as goal

abbrev pub invariant-loop-i : goal.invariant-loop-i
invariant-loop-i l = (l.i ≤ length l.list) × (first_of (entry_fault l.list) (λ k. k + 1) (length l.list - l.i) l.i ≡ entries_fault l.list)
