-- What the boxes ahead have is still owed.
use Rattle.parts.proofs.Writing.{Hards}
use Prim.Native.Nat.{◌+◌, ◌≤◌}
use Rattle.parts.proofs.put_hard.Given as goal

abbrev pub invariant-loop-b : goal.invariant-loop-b
invariant-loop-b l =
    (1 ≤ l.b)
    × (l.b ≤ l.n + 1)
    × Hards l.part l.words l.n l.initial.out l.from l.out l.at l.b
