-- The clauses of the values from j on are still owed.
use Rattle.standard.specs.Writers.{apart_from, apart}
use Rattle.lists.specs.Lists.{count}
use Rattle.lists.specs.Stores.{Owes}
use Rattle.clause.specs.Clause.{entries_of}
use Rattle.clause.specs.Numbers.{value_from}
use mathlib.Core.List.{flat_map}
use Prim.Native.Nat.{◌+◌, ◌-◌}
use Rattle.standard.proofs.put_apart.Given as goal

abbrev pub invariant-loop-j : goal.invariant-loop-j
invariant-loop-j l =
    Owes l.initial.out l.from (entries_of (apart (value_from l.v) l.m)) l.out l.at (entries_of (flat_map (apart_from (value_from l.v) l.m) (count l.j (l.m + 1 - l.j))))
