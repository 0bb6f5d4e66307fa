-- The literals from j on and the closing 0 are still owed.
use Rattle.lists.specs.Lists.{count}
use Rattle.lists.specs.Stores.{Owes}
use Rattle.clause.specs.Clause.{plus, closed}
use Rattle.clause.specs.Numbers.{value_from}
use Rattle.clause.specs.Hard.{one_of}
use mathlib.Core.List.{map}
use Prim.Native.Nat.{◌+◌, ◌-◌}
use Rattle.standard.proofs.put_one_of.Given as goal

abbrev pub invariant-loop-j : goal.invariant-loop-j
invariant-loop-j l =
    Owes l.initial.out l.from (closed (one_of (value_from l.v) l.m)) l.out l.at (closed (map (λ i. plus (value_from l.v i)) (count l.j (l.m + 1 - l.j))))
