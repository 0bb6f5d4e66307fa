-- The sum so far is the base of the box that comes next.
use Rattle.clause.specs.Numbers.{value_base_lem}
use Rattle.table.specs.Words.{table_of}
use mathlib.Core.Path.{◌≡◌}
use Rattle.numbers.proofs.value_base.Given as goal

abbrev pub invariant-loop-i : goal.invariant-loop-i
invariant-loop-i l = l.sum ≡ value_base_lem (table_of l.words) l.i
