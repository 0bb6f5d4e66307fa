-- What the pairs ahead have is still owed, with whichever hard part the number of c_1 comes from.
use Rattle.parts.proofs.Writing.{Writes}
use Rattle.parts.proofs.Scratch.{asked, Leaves}
use Rattle.clause.specs.Ends.{one, two}
use Rattle.table.specs.Words.{Ahead}
use lib.ListN.{length}
use Prim.Native.Nat.{◌+◌, ◌-◌, ◌≤◌}
use mathlib.Core.Path.{◌≡◌}
use Rattle.parts.proofs.put_soft.Given as goal

abbrev pub invariant-loop : goal.invariant-loop
invariant-loop l =
    (l.counter ≤ l.p)
    × (l.p ≤ 256)
    × Ahead l.words (l.p - l.counter) l.at
    × (l.switch ≡ l.initial.switch + l.counter)
    × Writes l.side l.words l.p l.initial.out l.from l.initial.switch l.out l.cursor l.at l.counter
    × (asked l.side one l.words (l.p - l.counter) l.at ≤ length l.first)
    × (asked l.side two l.words (l.p - l.counter) l.at ≤ length l.second)
    × Leaves l.side one l.words (l.p - l.counter) l.at l.initial.first l.first
    × Leaves l.side two l.words (l.p - l.counter) l.at l.initial.second l.second
