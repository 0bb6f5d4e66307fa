-- The clauses of the values from j on are still owed.
use Rattle.regular.specs.Thresholds.{all_between}
use Rattle.lists.specs.Lists.{count}
use Rattle.lists.specs.Stores.{Owes}
use Rattle.clause.specs.Clause.{entries_of}
use Rattle.clause.specs.Numbers.{value_from, step_from}
use Rattle.clause.specs.Hard.{between}
use mathlib.Core.List.{flat_map}
use Prim.Native.Nat.{◌-◌}
use Rattle.regular.proofs.put_all_between.Given as goal

abbrev pub invariant-loop-j : goal.invariant-loop-j
invariant-loop-j l =
    Owes l.initial.out l.from (entries_of (all_between (value_from l.v) (step_from l.s) l.m)) l.out l.at (entries_of (flat_map (between (value_from l.v) (step_from l.s)) (count l.j (l.m - l.j))))
