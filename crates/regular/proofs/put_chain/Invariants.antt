-- The clauses from j on are still owed.
use Rattle.regular.specs.Thresholds.{chain}
use Rattle.lists.specs.Lists.{count}
use Rattle.lists.specs.Stores.{Owes}
use Rattle.clause.specs.Clause.{entries_of}
use Rattle.clause.specs.Numbers.{step_from}
use Rattle.clause.specs.Hard.{chain_at}
use mathlib.Core.List.{map}
use Prim.Native.Nat.{◌+◌, ◌-◌}
use Rattle.regular.proofs.put_chain.Given as goal

abbrev pub invariant-loop-j : goal.invariant-loop-j
invariant-loop-j l =
    Owes l.initial.out l.from (entries_of (chain (step_from l.s) l.m)) l.out l.at (entries_of (map (chain_at (step_from l.s)) (count l.j (l.m + 1 - l.j))))
