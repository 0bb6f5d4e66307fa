-- How many clauses the pair at a cursor has.
use Rattle.std.specs.Prelude.{ℕ, List}
use Rattle.table.specs.Words.{pair_at, table_of}
use Rattle.clause.specs.declared.Side.{Side}
use Rattle.clause.specs.Ends.{one, two, end}
use Rattle.pairs.specs.Pairs.{pair_tally_lem}

abbrev pub pair_count : Side → List ℕ → ℕ → ℕ
pair_count s ws at = (pair_tally_lem s (end (table_of ws) (pair_at ws at) one) (end (table_of ws) (pair_at ws at) two)).clauses
