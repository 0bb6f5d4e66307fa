-- The clause list part by part, as a loop over the boxes and one over the pairs go through it; and what is written and counted of each part.
use mathlib.Core.Path.{◌≡◌, refl, sym, ap, ◌∙◌}
use mathlib.Core.List.{List, [], ◌∷◌, ◌++◌, flat_map, map-append}
use Prim.Native.Nat.{ℕ, suc, ◌+◌, ◌-◌, ◌≤◌, ◌<◌}
use native.Mathlib.Nat.{sub-zero}
use native.Mathlib.Omega.{arith}
use lib.ListN.{length, replicate, length-append, length-map, replicate-append-replicate}
use lib.IntN.{ℤ}
use Rattle.lists.specs.Lists.{count}
use Rattle.lists.proofs.Runs.{count_turn, count_end, count_all}
use Rattle.table.specs.Table.{Table, boxes}
use Rattle.table.specs.Words.{box_count, pair_count, pair_at, pair_next, pairs_at, table_of}
use Rattle.table.proofs.Words.{pairs_turn, pairs_last}
use Rattle.table.proofs.Tables.{table_pairs}
use Rattle.clause.specs.declared.Hard.{Hard}
use Rattle.clause.specs.declared.Side.{Side}
use Rattle.clause.specs.Clause.{Clause, Weighted, weigh, bare, entries_of, entries, weights, literals_in}
use Rattle.clause.specs.Hard.{box_clauses}
use Rattle.clause.specs.List.{hard_part, pair_clauses, soft_from, soft_part, clauses}
use Rattle.clause.specs.Lengths.{clause_count, literal_count, entry_count}
use Rattle.clause.proofs.Lengths.{entries_of_append, entries_append, entries_weigh, weights_append, weights_weigh, literals_append, entries_length}

-- ---- box by box

module _ (h : Hard) (t : Table) where
  -- the hard part from box b on, of n boxes
  abbrev pub hard_from : ℕ → ℕ → List Clause
  hard_from n b = flat_map (box_clauses h t) (count b (n + 1 - b))

  pub hard_turn : (n b : ℕ) → b ≤ n → hard_from n b ≡ box_clauses h t b ++ hard_from n (b + 1)
  unfolding flat_map
  hard_turn n b l = ap (flat_map (box_clauses h t)) (count_turn b n l)

  pub hard_end : (n b : ℕ) → n < b → hard_from n b ≡ []
  unfolding flat_map
  hard_end n b l = ap (flat_map (box_clauses h t)) (count_end b n l)

  pub hard_all : hard_from (boxes t) 1 ≡ hard_part h t
  unfolding hard_part
  hard_all = ap (flat_map (box_clauses h t)) (count_all (boxes t))

-- ---- pair by pair

module _ (h : Hard) (s : Side) (ws : List ℕ) where
  -- the soft part from the pair that k pairs stand before, at a cursor, of p pairs
  abbrev pub soft_ahead : ℕ → ℕ → ℕ → List Weighted
  soft_ahead p k at = soft_from h s (table_of ws) (k + 1) (pairs_at ws (p - k) at)

  pub soft_turn : (p k at : ℕ) → k < p
      → soft_ahead p k at ≡ weigh (pair_at ws at).weight (pair_clauses h s (table_of ws) (k + 1) (pair_at ws at)) ++ soft_ahead p (k + 1) (pair_next ws at)
  unfolding soft_from
  soft_turn p k at l = let z : suc (k + 1) ≡ k + 1 + 1 = omega arith in rw (pairs_turn ws p k at l, z)

  pub soft_end : (p k at : ℕ) → p - k ≡ 0 → soft_ahead p k at ≡ []
  unfolding soft_from
  soft_end p k at e = rw (pairs_last ws p k at e)

  pub soft_all : soft_ahead (pair_count ws) 0 (box_count ws + 2) ≡ soft_part h s (table_of ws)
  unfolding soft_part
  soft_all =
      ap (soft_from h s (table_of ws) 1) (ap (λ (n : ℕ). pairs_at ws n (box_count ws + 2)) (sub-zero (pair_count ws)) ∙ sym (table_pairs ws))

-- ---- the whole, as it is written and counted

bare_append : (us vs : List Weighted) → bare (us ++ vs) ≡ bare us ++ bare vs
bare_append us vs = map-append (λ u. u.lits) us vs

bare_weigh : (w : ℕ) (cs : List Clause) → bare (weigh w cs) ≡ cs
bare_weigh w [] = refl
bare_weigh w (c ∷ cs) = ap (λ (l : List Clause). c ∷ l) (bare_weigh w cs)

-- what a weighed part adds to what follows it
pub bare_part : (w : ℕ) (cs : List Clause) (us : List Weighted) → bare (weigh w cs ++ us) ≡ cs ++ bare us
bare_part w cs us = bare_append (weigh w cs) us ∙ ap (λ (l : List Clause). l ++ bare us) (bare_weigh w cs)

pub entries_part : (w : ℕ) (cs : List Clause) (us : List Weighted) → entries (weigh w cs ++ us) ≡ entries_of cs ++ entries us
entries_part w cs us = entries_append (weigh w cs) us ∙ ap (λ (l : List ℤ). l ++ entries us) (entries_weigh w cs)

pub weights_part : (w : ℕ) (cs : List Clause) (us : List Weighted) → weights (weigh w cs ++ us) ≡ replicate (length cs) w ++ weights us
weights_part w cs us = weights_append (weigh w cs) us ∙ ap (λ (l : List ℕ). l ++ weights us) (weights_weigh w cs)

pub length_part : (w : ℕ) (cs : List Clause) (us : List Weighted) → length (weigh w cs ++ us) ≡ length cs + length us
length_part w cs us = length-append (weigh w cs) us ∙ ap (λ (n : ℕ). n + length us) (length-map cs _)

pub literals_part : (w : ℕ) (cs : List Clause) (us : List Weighted) → literals_in (bare (weigh w cs ++ us)) ≡ literals_in cs + literals_in (bare us)
literals_part w cs us =
    ap literals_in (bare_part w cs us) ∙ literals_append cs (bare us)

-- ---- a turn, as it is written and weighed

module _ (h : Hard) (t : Table) (n b : ℕ) where
  pub hard_text : b ≤ n → entries_of (hard_from h t n b) ≡ entries_of (box_clauses h t b) ++ entries_of (hard_from h t n (b + 1))
  hard_text l = ap entries_of (hard_turn h t n b l) ∙ entries_of_append (box_clauses h t b) (hard_from h t n (b + 1))

  pub hard_weights : b ≤ n
      → replicate {A = ℕ} (length (hard_from h t n b)) 0 ≡ replicate (length (box_clauses h t b)) 0 ++ replicate (length (hard_from h t n (b + 1))) 0
  hard_weights l =
      let w : ℕ = 0 in
      ap (λ (k : ℕ). replicate k w) (ap length (hard_turn h t n b l) ∙ length-append (box_clauses h t b) (hard_from h t n (b + 1)))
      ∙ sym (replicate-append-replicate (length (box_clauses h t b)) (length (hard_from h t n (b + 1))) w)

module _ (h : Hard) (s : Side) (ws : List ℕ) (p k at : ℕ) (l : k < p) where
  pub bare_turn : bare (soft_ahead h s ws p k at) ≡ pair_clauses h s (table_of ws) (k + 1) (pair_at ws at) ++ bare (soft_ahead h s ws p (k + 1) (pair_next ws at))
  bare_turn = ap bare (soft_turn h s ws p k at l) ∙ bare_part (pair_at ws at).weight (pair_clauses h s (table_of ws) (k + 1) (pair_at ws at)) _

  pub soft_text : entries (soft_ahead h s ws p k at)
      ≡ entries_of (pair_clauses h s (table_of ws) (k + 1) (pair_at ws at)) ++ entries (soft_ahead h s ws p (k + 1) (pair_next ws at))
  soft_text = ap entries (soft_turn h s ws p k at l) ∙ entries_part (pair_at ws at).weight (pair_clauses h s (table_of ws) (k + 1) (pair_at ws at)) _

  pub soft_weights : weights (soft_ahead h s ws p k at)
      ≡ replicate (length (pair_clauses h s (table_of ws) (k + 1) (pair_at ws at))) (pair_at ws at).weight ++ weights (soft_ahead h s ws p (k + 1) (pair_next ws at))
  soft_weights = ap weights (soft_turn h s ws p k at l) ∙ weights_part (pair_at ws at).weight (pair_clauses h s (table_of ws) (k + 1) (pair_at ws at)) _

-- ---- the whole

module _ (h : Hard) (s : Side) (t : Table) where
  pub entries_clauses : entries (clauses h s t) ≡ entries_of (hard_part h t) ++ entries (soft_part h s t)
  unfolding clauses
  entries_clauses = entries_part 0 (hard_part h t) (soft_part h s t)

  pub weights_clauses : weights (clauses h s t) ≡ replicate (length (hard_part h t)) 0 ++ weights (soft_part h s t)
  unfolding clauses
  weights_clauses = weights_part 0 (hard_part h t) (soft_part h s t)

  pub count_clauses : clause_count h s t ≡ length (hard_part h t) + length (soft_part h s t)
  unfolding clause_count clauses
  count_clauses = length_part 0 (hard_part h t) (soft_part h s t)

  pub literals_clauses : literal_count h s t ≡ literals_in (hard_part h t) + literals_in (bare (soft_part h s t))
  unfolding literal_count clauses
  literals_clauses = literals_part 0 (hard_part h t) (soft_part h s t)

  pub entries_count : entry_count h s t ≡ clause_count h s t + literal_count h s t
  unfolding entry_count clause_count literal_count entries
  entries_count = entries_length (bare (clauses h s t)) ∙ ap (λ (n : ℕ). n + literals_in (bare (clauses h s t))) (length-map (clauses h s t) _)

  -- one weight a clause
  pub weights_count : length (weights (clauses h s t)) ≡ clause_count h s t
  unfolding weights clause_count
  weights_count = length-map (clauses h s t) _
