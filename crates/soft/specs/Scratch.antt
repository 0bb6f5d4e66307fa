-- What a pair asks of the two scratch slices and leaves in them.
use Rattle.std.specs.Prelude.{ℕ, List, [], ℤ}
use Rattle.std.proofs.lemmas.List.Edits.{sets}
use Rattle.table.specs.Table.{Table, Pair}
use Rattle.clause.specs.declared.Side.{Side}
use Rattle.clause.specs.declared.Side.TheVariants.{Direct, Support, First, Literals, Score}
use Rattle.clause.specs.Clause.{entries_of}
use Rattle.clause.specs.Ends.{Which, end, support_clauses}
use Rattle.clause.specs.Lengths.{candidate_length_lem}

-- what the scratch slice of an end must hold for this pair
abbrev pub pair_scratch : Side → Which → Table → Pair → ℕ
pair_scratch Direct w t p = 0
pair_scratch Support w t p = 0
pair_scratch First w t p = 0
pair_scratch Literals w t p = candidate_length_lem t w p
pair_scratch Score w t p = candidate_length_lem t w p

-- what a pair leaves in the scratch slice of an end: on the sides that choose that end's list from the start on, and else what it held
abbrev pub scratch_with : Side → Which → Table → Pair → List ℤ → List ℤ
scratch_with Direct w t p old = old
scratch_with Support w t p old = old
scratch_with First w t p old = old
scratch_with Literals w t p old = sets old 0 (entries_of (support_clauses (end t p w) []))
scratch_with Score w t p old = sets old 0 (entries_of (support_clauses (end t p w) []))
