-- The lengths of a table from its parts, and the longest list of an end.
use mathlib.Core.Path.{◌≡◌, sym, ap, ap₂, ◌∙◌}
use mathlib.Core.List.{List, []}
use lib.ListN.{length, length-map}
use Prim.Native.Nat.{ℕ, ◌+◌, ◌-◌, ◌≤◌, ◌<◌, max}
use native.Mathlib.Nat.{le_trans, le-max_left, max-eq_left, max-eq_right, max-zero, zero-max}
use native.Mathlib.Omega.{arith}
use Rattle.lists.proofs.Truth.{order}
use Rattle.table.specs.Table.{Pair, Table}
use Rattle.table.specs.Words.{box_count, pair_count, pair_at, pair_next, pairs_at, table_of}
use Rattle.table.proofs.Tables.{table_pairs}
use Rattle.table.proofs.Words.{pairs_turn, pairs_last}
use Rattle.clause.specs.declared.Hard.{Hard}
use Rattle.clause.specs.declared.Hard.TheVariants.{Standard}
use Rattle.clause.specs.declared.Encoding.{Encoding}
use Rattle.clause.specs.declared.Side.{Side}
use Rattle.clause.specs.Clause.{bare, entries_of}
use Rattle.clause.specs.Numbers.{values, thresholds, switches, variables}
use Rattle.clause.specs.List.{hard_part, soft_part}
use Rattle.clause.specs.Ends.{End, Which, support_clauses}
use Rattle.clause.specs.Lengths.{clause_count, literal_count, entry_count, longest, candidate_length_lem, top}
use Rattle.clause.proofs.Turns.{count_clauses, literals_clauses, entries_count}
use Rattle.hard.specs.declared.Tally.{Tally}
use Rattle.hard.specs.Tallies.{tally_of}
use Rattle.ends.specs.declared.Seen.{Seen}
use Rattle.ends.specs.Seen.{end_of}
use Rattle.sight.proofs.Sight.{Sees}
use Rattle.totals.proofs.Counting.{soft_any}
use Rattle.measure.specs.declared.Lengths.{Lengths}
use Rattle.measure.specs.Measures.{lengths_for}

-- ---- all lengths of a table, from its parts

bare_length : (h : Hard) (s : Side) (t : Table) → length (bare (soft_part h s t)) ≡ length (soft_part h s t)
bare_length h s t = length-map (soft_part h s t) _

pub lengths_made : (e : Encoding) (t : Table) (v k c l : ℕ) (hard soft : Tally)
    → v ≡ values t + thresholds t e.hard → k ≡ switches t e.side
    → hard ≡ tally_of (hard_part e.hard t) → soft ≡ tally_of (bare (soft_part Standard e.side t))
    → c ≡ hard.clauses + soft.clauses → l ≡ hard.literals + soft.literals → (top-is : ℕ) → top-is ≡ top t
    → ◌≡◌ {A = Lengths} (record { variables = v + k; clauses = c; literals = l; entries = c + l; top = top-is }) (lengths_for e t)
unfolding variables
lengths_made e t v k c l hard soft p q x y m n w z =
    let any = soft_any e.hard Standard e.side t in
    let clauses-are : c ≡ clause_count e.hard e.side t =
    omega (
      arith,
      m,
      ap (λ (u : Tally). u.clauses) x,
      ap (λ (u : Tally). u.clauses) y,
      any.0,
      count_clauses e.hard e.side t,
      bare_length Standard e.side t,
    ) in
    let literals-are : l ≡ literal_count e.hard e.side t =
    omega (arith, n, ap (λ (u : Tally). u.literals) x, ap (λ (u : Tally). u.literals) y, any.1, literals_clauses e.hard e.side t) in
    let entries-are : c + l ≡ entry_count e.hard e.side t = omega (arith, clauses-are, literals-are, entries_count e.hard e.side t) in
    let variables-are : v + k ≡ variables t e.hard e.side = ap₂ ◌+◌ p q in
    λ i. record { variables = variables-are i; clauses = clauses-are i; literals = literals-are i; entries = entries-are i; top = z i }

-- ---- the longest list of an end

max_assoc : (a b c : ℕ) → max (max a b) c ≡ max a (max b c)
max_assoc a b c =
    order a b
    (λ h. rw (max-eq_right h) (sym (max-eq_right (le_trans h (le-max_left b c)))))
    (λ h. let l : b ≤ a = omega arith in
    order c b
    (λ k. let m : c ≤ a = omega arith in rw (max-eq_left l, max-eq_left k, max-eq_left l) (max-eq_left m))
    (λ k. let m : b ≤ c = omega arith in rw (max-eq_left l, max-eq_right m)))

pub candidate_is : (ws : List ℕ) (at : ℕ) (w : Which) (seen : Seen) → Sees ws at w seen
    → length (entries_of (support_clauses (end_of ws seen) [])) ≡ candidate_length_lem (table_of ws) w (pair_at ws at)
unfolding candidate_length_lem
candidate_is ws at w seen S = ap (λ (e : End). length (entries_of (support_clauses e []))) S.is

module _ (f : Pair → ℕ) (ws : List ℕ) (p k at best all : ℕ) where
  pub longest_turn : k < p → max best (longest f (pairs_at ws (p - k) at)) ≡ all
      → max (max best (f (pair_at ws at))) (longest f (pairs_at ws (p - (k + 1)) (pair_next ws at))) ≡ all
  longest_turn l e =
      max_assoc best (f (pair_at ws at)) (longest f (pairs_at ws (p - (k + 1)) (pair_next ws at)))
      ∙ ap (λ (ps : List Pair). max best (longest f ps)) (sym (pairs_turn ws p k at l)) ∙ e

  pub longest_last : p - k ≡ 0 → max best (longest f (pairs_at ws (p - k) at)) ≡ all → best ≡ all
  longest_last z e = sym (max-zero best) ∙ ap (λ (ps : List Pair). max best (longest f ps)) (sym (pairs_last ws p k at z)) ∙ e

pub longest_all : (f : Pair → ℕ) (ws : List ℕ) → max 0 (longest f (pairs_at ws (pair_count ws) (box_count ws + 2))) ≡ longest f (table_of ws).pairs
longest_all f ws = zero-max _ ∙ ap (longest f) (sym (table_pairs ws))
