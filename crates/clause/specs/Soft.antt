-- The soft clauses of a pair, by side, without their weight: each has the pair's.
use Rattle.std.specs.Prelude.{List, [], ◌++◌}
use Rattle.table.specs.Table.{Table, Pair}
use Rattle.clause.specs.declared.Side.{Side}
use Rattle.clause.specs.declared.Side.TheVariants.{Direct, Support, First, Literals, Score}
use Rattle.clause.specs.Clause.{Clause}
use Rattle.clause.specs.Ends.{End, Which, one, two, end, direct_clauses, support_clauses}
use Rattle.clause.specs.Choice.{by_literals, by_score}

abbrev pub pick : Which → End → End → End
pick one a b = a
pick two a b = b

-- of the ends a and b of the first and the second box; `on` and `off` end their clauses on the support side: c_k, and not c_k
unfoldable pub soft_with : Side → End → End → Clause → Clause → List Clause
soft_with Direct a b on off = direct_clauses a
soft_with Support a b on off = support_clauses a on ++ support_clauses b off
soft_with First a b on off = support_clauses a []
soft_with Literals a b on off = support_clauses (pick (by_literals a b) a b) []
soft_with Score a b on off = support_clauses (pick (by_score a b) a b) []

unfoldable pub soft : Side → Table → Clause → Clause → Pair → List Clause
soft s t on off p = soft_with s (end t p one) (end t p two) on off
