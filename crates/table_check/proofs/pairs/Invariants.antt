-- What the pairs ahead give is what all of them give.
use Rattle.table.specs.Words.{pairs_fault, pairs_end}
use Prim.Native.Nat.{◌-◌, ◌≤◌}
use mathlib.Core.Path.{◌≡◌}
use Rattle.table_check.proofs.pairs.Given as goal

abbrev pub invariant-loop : goal.invariant-loop
invariant-loop l = (l.counter ≤ l.p) × (pairs_fault l.words l.n (l.p - l.counter) l.at ≡ pairs_fault l.words l.n l.p l.from) × (pairs_end l.words (l.p - l.counter) l.at ≡ pairs_end l.words l.p l.from)
