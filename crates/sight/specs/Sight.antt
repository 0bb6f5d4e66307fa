-- The two ends of the pair at a cursor, as the code's struct.
use Rattle.std.specs.Prelude.{ℕ, true, false, List}
use Rattle.table.specs.Table.{size}
use Rattle.table.specs.Words.{pair_at, table_of}
use Rattle.clause.specs.Numbers.{value_base_lem}
use Rattle.clause.specs.Ends.{Which, one, two}
use Rattle.ends.specs.declared.Seen.{Seen}

-- the same pair, seen from the second box
abbrev pub turned_of : Seen → Seen
turned_of s = record { at = s.at; own = s.other; mine = s.theirs; other = s.own; theirs = s.mine; turned = true }

abbrev pub first_seen : List ℕ → ℕ → Seen
first_seen ws at =
    record {
      at = at;
      own = value_base_lem (table_of ws) (pair_at ws at).first;
      mine = size (table_of ws) (pair_at ws at).first;
      other = value_base_lem (table_of ws) (pair_at ws at).second;
      theirs = size (table_of ws) (pair_at ws at).second;
      turned = false;
    }

abbrev pub seen_of : List ℕ → ℕ → Which → Seen
seen_of ws at one = first_seen ws at
seen_of ws at two = turned_of (first_seen ws at)
