-- The weights of the boxes as a loop stores them, and those of the pairs, which do not depend on the hard part.
use native.Mathlib.Omega.{arith}
use mathlib.Core.Path.{◌≡◌, refl, sym, ap, ap₂, ◌∙◌}
use mathlib.Core.List.{List, [], ◌∷◌, ◌++◌}
use Prim.Native.Nat.{ℕ, suc, ◌+◌, ◌^◌, ◌≤◌, ◌<◌}
use lib.ListN.{length, replicate, length-replicate}
use Rattle.table.specs.Table.{Table, Pair, In}
use Rattle.table.specs.Words.{box_count, size_at, pair_at, pair_next, table_of, Accepted}
use Rattle.table.proofs.Tables.{accepted_box}
use Rattle.lists.specs.Stores.{Wrote, Owes}
use Rattle.lists.proofs.Stores.{owes_all, owes_part, owes_none, owes_room}
use Rattle.clause.specs.declared.Hard.{Hard}
use Rattle.clause.specs.declared.Hard.TheVariants.{Standard}
use Rattle.clause.specs.declared.Side.{Side}
use Rattle.clause.specs.Clause.{Clause, weights}
use Rattle.clause.specs.Hard.{box_clauses}
use Rattle.clause.specs.List.{hard_part, pair_clauses, soft_from, soft_part}
use Rattle.clause.proofs.Turns.{hard_from, hard_weights, hard_end, soft_ahead, soft_weights, weights_part}
use Rattle.hard.specs.declared.Tally.{Tally}
use Rattle.hard.specs.Tallies.{box_tally_lem}
use Rattle.totals.proofs.Starts.{hard_start}
use Rattle.pairs.proofs.Counted.{pair_tally_is}
use Rattle.totals.proofs.Counting.{box_part, pair_any}
use Rattle.weights.specs.Weights.{pair_count}

-- ---- the boxes

-- a box has as many weights as its clauses were counted
pub box_weights : {m b : ℕ} {part : Tally} (h : Hard) (ws : List ℕ) → Accepted ws → In 1 (box_count ws) b → m ≡ size_at ws b → part ≡ box_tally_lem h m
    → part.clauses ≡ length (box_clauses h (table_of ws) b)
box_weights {b = b} h ws A i e p = ap (λ (u : Tally). u.clauses) (box_part h ws b A (accepted_box ws b A i) e p).is

-- what the boxes from b on have is owed
pub record Hards (h : Hard) (ws : List ℕ) (n : ℕ) (old : List ℕ) (from : ℕ) (out : List ℕ) (at b : ℕ) : Type 0 where
  pub owed : Owes old from (replicate (length (hard_part h (table_of ws))) 0) out at (replicate (length (hard_from h (table_of ws) n b)) 0)

module _ {h : Hard} {ws : List ℕ} {n : ℕ} where
  pub hards_all : {old : List ℕ} {from : ℕ} → Accepted ws → n ≡ box_count ws → Hards h ws n old from old from 1
  hards_all A e = record { owed = rw (hard_start h ws n A e) owes_all }

  module _ {old out : List ℕ} {from at b k : ℕ} (H : Hards h ws n old from out at b) where
    pub hards_turn : {new : List ℕ} {r : ℕ} → b ≤ n → k ≡ length (box_clauses h (table_of ws) b) → Wrote out at (replicate k 0) r new
        → Hards h ws n old from new r (b + 1)
    hards_turn l e w = record { owed = owes_part H.owed (hard_weights h (table_of ws) n b l) (rw e at w) }

    pub hards_room : b ≤ n → k ≡ length (box_clauses h (table_of ws) b) → from + length (hard_part h (table_of ws)) < 2 ^ 64 → at + k < 2 ^ 64
    hards_room l e room =
        let z : ℕ = 0 in
        let all : from + length (replicate (length (hard_part h (table_of ws))) z) < 2 ^ 64 = rw length-replicate room in
        let fits = owes_room (replicate (length (box_clauses h (table_of ws) b)) z) _ H.owed (hard_weights h (table_of ws) n b l) all in
        omega (arith, fits, e, length-replicate (length (box_clauses h (table_of ws) b)) z)

  module _ {old out : List ℕ} {from at b : ℕ} (H : Hards h ws n old from out at b) where
    pub hards_none : n < b → Wrote old from (replicate (length (hard_part h (table_of ws))) 0) at out
    hards_none l = let z : ℕ = 0 in owes_none H.owed (ap (λ (cs : List Clause). replicate (length cs) z) (hard_end h (table_of ws) n b l))

-- ---- the pairs

pub pair_count_lem : (s : Side) (ws : List ℕ) (k at : ℕ) → length (pair_clauses Standard s (table_of ws) k (pair_at ws at)) ≡ pair_count s ws at
pair_count_lem s ws k at = ap (λ (t : Tally). t.clauses) (pair_tally_is Standard s ws k at)

pub weights_turn : (s : Side) (ws : List ℕ) (p k at : ℕ) → k < p
    → weights (soft_ahead Standard s ws p k at)
    ≡ replicate (pair_count s ws at) (pair_at ws at).weight ++ weights (soft_ahead Standard s ws p (k + 1) (pair_next ws at))
weights_turn s ws p k at l =
    soft_weights Standard s ws p k at l
    ∙ ap (λ (n : ℕ). replicate n (pair_at ws at).weight ++ weights (soft_ahead Standard s ws p (k + 1) (pair_next ws at))) (pair_count_lem s ws (k + 1) at)

module _ (h g : Hard) (s : Side) (t : Table) where
  weights_from : (k : ℕ) (ps : List Pair) → weights (soft_from h s t k ps) ≡ weights (soft_from g s t k ps)
  unfolding soft_from
  weights_from k [] = refl
  weights_from k (p ∷ ps) =
      weights_part p.weight (pair_clauses h s t k p) (soft_from h s t (suc k) ps)
      ∙ ap₂ (λ (n : ℕ) (l : List ℕ). replicate n p.weight ++ l) (pair_any h g s t k p).0 (weights_from (suc k) ps)
      ∙ sym (weights_part p.weight (pair_clauses g s t k p) (soft_from g s t (suc k) ps))

  pub weights_any : weights (soft_part h s t) ≡ weights (soft_part g s t)
  unfolding soft_part
  weights_any = weights_from 1 t.pairs
