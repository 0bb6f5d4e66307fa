-- What the boxes ahead have is still owed.
use Rattle.wcnf_text.proofs.Texts.{Boxes}
use lib.ListN.{length}
use Prim.Native.Nat.{◌+◌, ◌*◌, ◌-◌, ◌≤◌}
use mathlib.Core.Path.{◌≡◌}
use Rattle.wcnf_text.proofs.put_boxes.Given as goal

abbrev pub invariant-loop-b : goal.invariant-loop-b
invariant-loop-b l =
    (1 ≤ l.b)
    × (l.b ≤ l.n + 1)
    × (length l.clauses ≡ length l.initial.clauses)
    × (l.at ≤ l.from + 65536 * (l.b - 1))
    × Boxes l.top l.part l.words l.n l.initial.text l.from l.text l.at l.b
