-- What a reader finds at a cursor that stands before a pair of an accepted table.
use Rattle.std.specs.Prelude.{ℕ, List}
use Rattle.table.specs.Words.{pair_at, pair_next}
use Rattle.reader.specs.declared.PairHead.{PairHead}
use Rattle.reader.specs.declared.Reader.{Reader}

-- the pair's boxes and weight, and the cursor before the next pair
abbrev pub head_at_lem : List ℕ → ℕ → PairHead
head_at_lem ws at =
    record {
      first = (pair_at ws at).first;
      second = (pair_at ws at).second;
      weight = (pair_at ws at).weight;
      next = pair_next ws at;
    }

-- the same words, and the cursor before the next pair
abbrev pub stepped : Reader → Reader
stepped r = record { words = r.words; at = pair_next r.words.now r.at }
