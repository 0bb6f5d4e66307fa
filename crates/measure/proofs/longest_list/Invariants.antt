-- The longest so far and the longest ahead make the longest of all.
use Rattle.measure.specs.Measures.{which_by}
use Rattle.clause.specs.Lengths.{longest, candidate_length_lem}
use Rattle.table.specs.Words.{pairs_at, table_of, Ahead}
use Prim.Native.Nat.{◌-◌, max}
use mathlib.Core.Path.{◌≡◌}
use Rattle.measure.proofs.longest_list.Given as goal

abbrev pub invariant-loop : goal.invariant-loop
invariant-loop l =
    let f = candidate_length_lem (table_of l.words) (which_by l.second) in
    Ahead l.words (l.fn.table.counts.pairs - l.counter) l.at
    × (max l.best (longest f (pairs_at l.words (l.fn.table.counts.pairs - l.counter) l.at)) ≡ longest f (table_of l.words).pairs)
