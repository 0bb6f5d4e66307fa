-- What the values ahead give is what all of them give.
use Rattle.plan.specs.Plan.{value_fault}
use Rattle.table.specs.Words.{table_of}
use Rattle.lists.specs.Firsts.{first_of}
use Prim.Native.Nat.{◌+◌, ◌-◌, ◌≤◌}
use mathlib.Core.Path.{◌≡◌}
use Rattle.plan.proofs.judge.Given as goal

abbrev pub invariant-loop-i : goal.invariant-loop-i
invariant-loop-i l =
    (l.i ≤ l.n)
    × (first_of (value_fault (table_of l.words) l.plan) (λ k. k + 1) (l.n - l.i) l.i ≡ first_of (value_fault (table_of l.words) l.plan) (λ k. k + 1) l.n 0)
