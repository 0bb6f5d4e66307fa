-- No list of an end has more than 1024 entries: what `encode`, and the pass that measures a text, lend as scratch.
use mathlib.Core.Path.{sym, subst}
use mathlib.Core.List.{List, []}
use Prim.Native.Nat.{ℕ, zero, suc, ◌+◌, ◌≤◌, max}
use native.Mathlib.Nat.{max-eq_left, max-eq_right}
use native.Mathlib.Omega.{arith}
use Rattle.lists.proofs.Truth.{order}
use Rattle.table.specs.Table.{Pair}
use Rattle.table.specs.Words.{box_count, pair_count, pair_at, pair_next, pairs_at, table_of, Accepted, PairStands, Ahead}
use Rattle.table.proofs.Tables.{table_pairs, accepted_ahead}
use Rattle.clause.specs.declared.Side.{Side}
use Rattle.clause.specs.declared.Side.TheVariants.{Direct, Support, First, Literals, Score}
use Rattle.clause.specs.Ends.{Which, end}
use Rattle.clause.specs.Soft.{soft_with}
use Rattle.clause.specs.Lengths.{longest, candidate_length_lem, scratch_length}
use Rattle.clause.proofs.Lengths.{soft_room}
use Rattle.sight.proofs.Sight.{pair_small}
use Rattle.soft.specs.Scratch.{pair_scratch}

max_most : (a b k : ℕ) → a ≤ k → b ≤ k → max a b ≤ k
max_most a b k p q = order a b (λ h. rw (max-eq_right h) q) (λ h. let l : b ≤ a = omega arith in rw (max-eq_left l) p)

module _ (ws : List ℕ) (A : Accepted ws) (w : Which) where
  list_short : (at : ℕ) → PairStands ws at → candidate_length_lem (table_of ws) w (pair_at ws at) ≤ 1024
  unfolding candidate_length_lem soft_with
  list_short at S =
      let e = end (table_of ws) (pair_at ws at) w in
      let small = pair_small ws at A S w in
      (soft_room e e small small [] [] (omega arith) (omega arith) First).entries

  pub pair_scratch_short : (s : Side) (at : ℕ) → PairStands ws at → pair_scratch s w (table_of ws) (pair_at ws at) ≤ 1024
  pair_scratch_short Direct at S = omega arith
  pair_scratch_short Support at S = omega arith
  pair_scratch_short First at S = omega arith
  pair_scratch_short Literals at S = list_short at S
  pair_scratch_short Score at S = list_short at S

  lists_short : (k at : ℕ) → Ahead ws k at → longest (candidate_length_lem (table_of ws) w) (pairs_at ws k at) ≤ 1024
  unfolding pairs_at
  lists_short zero at a = omega arith
  lists_short (suc k) at a = max_most _ _ _ (list_short at a.0) (lists_short k (pair_next ws at) a.1)

  longest_short : longest (candidate_length_lem (table_of ws) w) (table_of ws).pairs ≤ 1024
  longest_short =
      subst (λ (ps : List Pair). longest (candidate_length_lem (table_of ws) w) ps ≤ 1024) (sym (table_pairs ws))
      (lists_short (pair_count ws) (box_count ws + 2) (accepted_ahead ws A))

  pub scratch_short : (s : Side) → scratch_length s w (table_of ws) ≤ 1024
  unfolding scratch_length
  scratch_short Direct = omega arith
  scratch_short Support = omega arith
  scratch_short First = omega arith
  scratch_short Literals = longest_short
  scratch_short Score = longest_short
