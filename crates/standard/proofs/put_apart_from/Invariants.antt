-- The clauses from k on are still owed.
use Rattle.standard.specs.Writers.{apart_from}
use Rattle.lists.specs.Lists.{count}
use Rattle.lists.specs.Stores.{Owes}
use Rattle.clause.specs.Clause.{entries_of}
use Rattle.clause.specs.Numbers.{value_from}
use Rattle.clause.specs.Hard.{not_both}
use mathlib.Core.List.{map}
use Prim.Native.Nat.{◌+◌, ◌-◌}
use Rattle.standard.proofs.put_apart_from.Given as goal

abbrev pub invariant-loop-k : goal.invariant-loop-k
invariant-loop-k l =
    Owes l.initial.out l.from (entries_of (apart_from (value_from l.v) l.m l.j)) l.out l.at (entries_of (map (not_both (value_from l.v) l.j) (count l.k (l.m + 1 - l.k))))
