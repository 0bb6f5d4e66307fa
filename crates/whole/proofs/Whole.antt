-- The whole list from its two parts.
use mathlib.Core.Path.{◌≡◌, ap, ◌∙◌}
use mathlib.Core.List.{List, ◌++◌}
use Prim.Native.Nat.{ℕ, ◌+◌}
use lib.ListN.{length, replicate, length-append, length-replicate}
use lib.IntN.{ℤ}
use Rattle.lists.specs.Stores.{Wrote}
use Rattle.lists.proofs.Stores.{wrote_append}
use Rattle.table.specs.Table.{Table}
use Rattle.clause.specs.declared.Hard.{Hard}
use Rattle.clause.specs.declared.Hard.TheVariants.{Standard}
use Rattle.clause.specs.declared.Side.{Side}
use Rattle.clause.specs.Clause.{entries_of, entries, weights}
use Rattle.clause.specs.List.{hard_part, soft_part, clauses}
use Rattle.clause.proofs.Turns.{entries_clauses, weights_clauses}
use Rattle.weights.proofs.Weighing.{weights_any}

module _ (h : Hard) (s : Side) (t : Table) where
  -- room for the whole is room for the hard part, and after it for the soft part
  pub entries_long : length (entries (clauses h s t)) ≡ length (entries_of (hard_part h t)) + length (entries (soft_part h s t))
  entries_long = ap length (entries_clauses h s t) ∙ length-append (entries_of (hard_part h t)) (entries (soft_part h s t))

  pub whole_put : {old mid new : List ℤ} {r q : ℕ} → Wrote old 0 (entries_of (hard_part h t)) r mid → Wrote mid r (entries (soft_part h s t)) q new
      → Wrote old 0 (entries (clauses h s t)) q new
  whole_put a b = rw (entries_clauses h s t) (wrote_append a b)

  -- the weights, which the soft part has alike with either hard part
  weights_are : weights (clauses h s t) ≡ replicate (length (hard_part h t)) 0 ++ weights (soft_part Standard s t)
  weights_are = weights_clauses h s t ∙ ap (λ (l : List ℕ). replicate (length (hard_part h t)) 0 ++ l) (weights_any h Standard s t)

  pub weights_long : length (weights (clauses h s t)) ≡ length (hard_part h t) + length (weights (soft_part Standard s t))
  weights_long =
      let w : ℕ = 0 in
      ap length weights_are
      ∙ length-append (replicate (length (hard_part h t)) w) (weights (soft_part Standard s t))
      ∙ ap (λ (n : ℕ). n + length (weights (soft_part Standard s t))) (length-replicate (length (hard_part h t)) w)

  pub whole_weighed : {old mid new : List ℕ} {r q : ℕ} → Wrote old 0 (replicate (length (hard_part h t)) 0) r mid
      → Wrote mid r (weights (soft_part Standard s t)) q new
      → Wrote old 0 (weights (clauses h s t)) q new
  whole_weighed a b = rw weights_are (wrote_append a b)

-- how long the weights of the hard part are, and all weights
pub ruleset weights_room = (weights_long, length-replicate)
