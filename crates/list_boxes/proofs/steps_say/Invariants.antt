-- What the thresholds ahead say is what all of them say.
use Rattle.list_boxes.proofs.Loops.{says_from}
use Rattle.list_boxes.specs.Counted.{steps_say_lem}
use Rattle.clause.specs.declared.Hard.TheVariants.{Regular}
use Rattle.clause.specs.Clause.{reads}
use Prim.Native.Nat.{◌≤◌}
use mathlib.Core.Path.{◌≡◌}
use Rattle.list_boxes.proofs.steps_say.Given as goal

abbrev pub invariant-loop-j : goal.invariant-loop-j
invariant-loop-j l = (2 ≤ l.j) × (says_from (reads l.list) l.base l.m l.a l.j ≡ steps_say_lem Regular (reads l.list) l.base l.m l.a)
