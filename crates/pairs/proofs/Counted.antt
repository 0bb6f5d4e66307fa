-- A pair of the table by its code's tally, and its bounds.
use mathlib.Core.Path.{◌≡◌}
use mathlib.Core.List.{List}
use Prim.Native.Nat.{ℕ}
use native.Mathlib.Omega.{arith}
use Rattle.table.specs.Words.{pair_at, table_of, Accepted, PairStands}
use Rattle.clause.specs.declared.Hard.{Hard}
use Rattle.clause.specs.declared.Side.{Side}
use Rattle.clause.specs.Clause.{plus, minus}
use Rattle.clause.specs.Numbers.{c}
use Rattle.clause.specs.Ends.{one, two, end}
use Rattle.clause.specs.Soft.{soft}
use Rattle.clause.specs.List.{pair_clauses}
use Rattle.clause.proofs.Lengths.{Room, soft_room}
use Rattle.hard.specs.Tallies.{tally_of}
use Rattle.sight.proofs.Sight.{pair_small}
use Rattle.pairs.specs.Pairs.{pair_tally_lem}
use Rattle.pairs.proofs.Sums.{tally_any}

module _ (h : Hard) (s : Side) (ws : List ℕ) (k at : ℕ) where
  pub pair_tally_is : tally_of (pair_clauses h s (table_of ws) k (pair_at ws at))
      ≡ pair_tally_lem s (end (table_of ws) (pair_at ws at) one) (end (table_of ws) (pair_at ws at) two)
  unfolding pair_clauses soft
  pair_tally_is = tally_any s _ _ (plus (c (table_of ws) h k)) (minus (c (table_of ws) h k))

  pub pair_room : Accepted ws → PairStands ws at → Room (pair_clauses h s (table_of ws) k (pair_at ws at)) 256 1024
  unfolding pair_clauses soft
  pair_room A S = soft_room _ _ (pair_small ws at A S one) (pair_small ws at A S two) _ _ (omega arith) (omega arith) s
