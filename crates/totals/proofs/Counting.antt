-- What the loops count: the weights of the pairs ahead, and the parts of the clause list.
use mathlib.Core.Path.{◌≡◌, refl, sym, ap, ap₂, ◌∙◌}
use mathlib.Core.List.{List, [], ◌∷◌, ◌++◌}
use lib.ListN.{length, length-append}
use Prim.Native.Nat.{ℕ, suc, ◌+◌, ◌≤◌}
use native.Mathlib.Omega.{arith}
use Rattle.lists.specs.Lists.{sum_of}
use Rattle.table.specs.Table.{Pair, Table}
use Rattle.table.specs.Words.{box_count, pair_count, size_at, pair_at, table_of, Accepted, BoxStands, PairStands}
use Rattle.table.proofs.Tables.{table_pairs, table_size, sum_ahead, pair_weight}
use Rattle.clause.specs.declared.Hard.{Hard}
use Rattle.clause.specs.declared.Side.{Side}
use Rattle.clause.specs.Clause.{plus, minus, Clause, bare, literals_in}
use Rattle.clause.specs.Numbers.{value_base_lem, step_base_lem, c}
use Rattle.clause.specs.Soft.{soft}
use Rattle.clause.specs.List.{pair_clauses, soft_from, soft_part}
use Rattle.clause.specs.Hard.{box_with, box_clauses}
use Rattle.clause.specs.Lengths.{top}
use Rattle.clause.proofs.Lengths.{literals_none, literals_append, entries_length, Room, box_room}
use Rattle.clause.proofs.Turns.{length_part, literals_part}
use Rattle.hard.specs.declared.Tally.{Tally}
use Rattle.hard.specs.Tallies.{tally_of, box_tally_lem}
use Rattle.hard.proofs.Tallies.{tally_any}
use Rattle.clause.specs.Ends.{one, two, end}
use Rattle.pairs.specs.Pairs.{pair_tally_lem}
use Rattle.pairs.proofs.Counted.{pair_tally_is, pair_room}
use Rattle.pairs.proofs.Sums as sums

abbrev pub weight_of : Pair → ℕ
weight_of p = p.weight

pub top_all : (ws : List ℕ) → top (table_of ws) ≡ 1 + sum_ahead ws weight_of (pair_count ws) (box_count ws + 2)
unfolding top
top_all ws = ap (λ (ps : List Pair). 1 + sum_of weight_of ps) (table_pairs ws)

pub weight_light : (ws : List ℕ) (at : ℕ) → PairStands ws at → (pair_at ws at).weight ≤ 1000000
weight_light ws at S = rw (pair_weight ws at) S.weight.1

-- ---- a part after the other, counted

-- with what the rest comes to, the sum so far makes up what all comes to
pub record Makes (sum : Tally) (rest all : List Clause) : Type 0 where
  pub clauses : sum.clauses + length rest ≡ length all
  pub literals : sum.literals + literals_in rest ≡ literals_in all

abbrev pub plus_tally : Tally → Tally → Tally
plus_tally a b = record { clauses = a.clauses + b.clauses; literals = a.literals + b.literals }

pub makes_all : {all start : List Clause} → start ≡ all → Makes (record { clauses = 0; literals = 0 }) start all
makes_all {all} {start} e = record { clauses = omega (arith, ap length e); literals = omega (arith, ap literals_in e) }

pub makes_turn : {sum part : Tally} {rest all next : List Clause} (cs : List Clause) → part ≡ tally_of cs → rest ≡ cs ++ next → Makes sum rest all
    → Makes (plus_tally sum part) next all
makes_turn {next = next} cs p e M =
    let n = ap (λ (t : Tally). t.clauses) p in
    let l = ap (λ (t : Tally). t.literals) p in
    record {
      clauses = omega (arith, n, M.clauses, ap length e, length-append cs next);
      literals = omega (arith, l, M.literals, ap literals_in e, literals_append cs next);
    }

pub makes_none : {sum : Tally} {rest all : List Clause} → rest ≡ [] → Makes sum rest all → sum ≡ tally_of all
makes_none {sum} {rest} {all} e M =
    let n : sum.clauses ≡ length all = omega (arith, M.clauses, ap length e) in
    let l : sum.literals ≡ literals_in all = omega (arith, M.literals, ap literals_in e, literals_none) in
    λ i. record { clauses = n i; literals = l i }

-- ---- boxes and pairs

module _ (h : Hard) (ws : List ℕ) (A : Accepted ws) (b : ℕ) (B : BoxStands ws b) where
  box_is : box_clauses h (table_of ws) b ≡ box_with h (value_base_lem (table_of ws) b) (step_base_lem (table_of ws) b) (size_at ws b)
  unfolding box_clauses
  box_is = ap (box_with h (value_base_lem (table_of ws) b) (step_base_lem (table_of ws) b)) (table_size ws b B.number.0 B.number.1)

  pub box_tally_is : box_tally_lem h (size_at ws b) ≡ tally_of (box_clauses h (table_of ws) b)
  box_tally_is = sym (tally_any h _ _ (size_at ws b)) ∙ ap tally_of (sym box_is)

  pub box_few : Room (box_clauses h (table_of ws) b) 128 400
  box_few = rw box_is (box_room h _ _ (size_at ws b) B.values.1)

-- a part that is few is few in clauses and literals
pub few_part : {n k : ℕ} {part : Tally} (cs : List Clause) → part ≡ tally_of cs → Room cs n k → (part.clauses ≤ n) × (part.literals ≤ k)
few_part cs p R =
    let a = ap (λ (t : Tally). t.clauses) p in
    let b = ap (λ (t : Tally). t.literals) p in
    (omega (arith, a, R.clauses), omega (arith, b, R.entries, entries_length cs))

-- what is known of the tally of a box or of a pair: whose clauses it counts, and how few they are
pub record Part (cs : List Clause) (n k : ℕ) (part : Tally) : Type 0 where
  pub is : part ≡ tally_of cs
  pub clauses : part.clauses ≤ n
  pub literals : part.literals ≤ k

known_part : {n k : ℕ} {part : Tally} (cs : List Clause) → part ≡ tally_of cs → Room cs n k → Part cs n k part
known_part cs p R = let few = few_part cs p R in record { is = p; clauses = few.0; literals = few.1 }

pub box_part : {m : ℕ} {part : Tally} (h : Hard) (ws : List ℕ) (b : ℕ) → Accepted ws → BoxStands ws b → m ≡ size_at ws b → part ≡ box_tally_lem h m
    → Part (box_clauses h (table_of ws) b) 128 400 part
box_part h ws b A B e p = known_part _ (p ∙ ap (box_tally_lem h) e ∙ box_tally_is h ws A b B) (box_few h ws A b B)

pub pair_part : {part : Tally} (h : Hard) (s : Side) (ws : List ℕ) (k at : ℕ) → Accepted ws → PairStands ws at
    → part ≡ pair_tally_lem s (end (table_of ws) (pair_at ws at) one) (end (table_of ws) (pair_at ws at) two)
    → Part (pair_clauses h s (table_of ws) k (pair_at ws at)) 256 1024 part
pair_part h s ws k at A S p = known_part _ (p ∙ sym (pair_tally_is h s ws k at)) (pair_room h s ws k at A S)

-- ---- the soft part comes to the same with either hard part: which number c_k has does not matter

module _ (h g : Hard) (s : Side) (t : Table) where
  same_tally : (k : ℕ) (p : Pair) → tally_of (pair_clauses h s t k p) ≡ tally_of (pair_clauses g s t k p)
  unfolding pair_clauses soft
  same_tally k p = sums.tally_any s _ _ (plus (c t h k)) (minus (c t h k)) ∙ sym (sums.tally_any s _ _ (plus (c t g k)) (minus (c t g k)))

  pub pair_any : (k : ℕ) (p : Pair)
      → (length (pair_clauses h s t k p) ≡ length (pair_clauses g s t k p)) × (literals_in (pair_clauses h s t k p) ≡ literals_in (pair_clauses g s t k p))
  pair_any k p = (ap (λ (u : Tally). u.clauses) (same_tally k p), ap (λ (u : Tally). u.literals) (same_tally k p))

  soft_from_lem : (k : ℕ) (ps : List Pair)
      → (length (soft_from h s t k ps) ≡ length (soft_from g s t k ps)) × (literals_in (bare (soft_from h s t k ps)) ≡ literals_in (bare (soft_from g s t k ps)))
  unfolding soft_from
  soft_from_lem k [] = (refl, refl)
  soft_from_lem k (p ∷ ps) =
      let w = p.weight in
      let cs = pair_clauses h s t k p in
      let ds = pair_clauses g s t k p in
      let us = soft_from h s t (suc k) ps in
      let vs = soft_from g s t (suc k) ps in
      let e = pair_any k p in
      let r = soft_from_lem (suc k) ps in (
        length_part w cs us ∙ ap₂ ◌+◌ e.0 r.0 ∙ sym (length_part w ds vs),
        literals_part w cs us ∙ ap₂ ◌+◌ e.1 r.1 ∙ sym (literals_part w ds vs),
      )

  pub soft_any : (length (soft_part h s t) ≡ length (soft_part g s t)) × (literals_in (bare (soft_part h s t)) ≡ literals_in (bare (soft_part g s t)))
  unfolding soft_part
  soft_any = soft_from_lem 1 t.pairs
