-- The clauses of both ends as they are written: one after the other, and those of the end that is taken from its scratch slice.
use mathlib.Core.Path.{◌≡◌, refl, ap, ap₂, ◌∙◌}
use mathlib.Core.Bool.{Bool, true, false, cond}
use mathlib.Core.List.{List, [], ◌++◌}
use Prim.Native.Nat.{ℕ, ◌+◌, ◌^◌, ◌≤◌, ◌<◌}
use native.Mathlib.Omega.{arith}
use lib.ListN.{length, take, length-append}
use lib.IntN.{ℤ}
use Rattle.lists.specs.Stores.{Wrote}
use Rattle.lists.proofs.Stores.{wrote_append, sets_begins}
use Rattle.clause.specs.declared.Side.TheVariants.{Support, First}
use Rattle.clause.specs.Clause.{Clause, entries_of}
use Rattle.clause.specs.Ends.{End, support_clauses}
use Rattle.clause.specs.Soft.{soft_with}
use Rattle.clause.proofs.Lengths.{entries_of_append, Small, soft_room}
use Rattle.choice.specs.Tally.{end_tally, second_by}
use Rattle.choice.proofs.Choice.{literals_picks, score_picks}
use Rattle.both_ends.specs.Chosen.{chosen}

-- ---- both ends

module _ (a b : End) (on off : Clause) where
  both : entries_of (soft_with Support a b on off) ≡ entries_of (support_clauses a on) ++ entries_of (support_clauses b off)
  unfolding soft_with
  both = entries_of_append (support_clauses a on) (support_clauses b off)

  both_long : length (entries_of (soft_with Support a b on off)) ≡ length (entries_of (support_clauses a on)) + length (entries_of (support_clauses b off))
  both_long = ap length both ∙ length-append (entries_of (support_clauses a on)) (entries_of (support_clauses b off))

  -- room for both is room for the first, and then for the second
  pub room_first : (k : ℕ) → k + length (entries_of (soft_with Support a b on off)) < 2 ^ 64 → k + length (entries_of (support_clauses a on)) < 2 ^ 64
  room_first k h = omega (arith, both_long)

  pub room_second : (k : ℕ) {r : ℕ} {old new : List ℤ} → k + length (entries_of (soft_with Support a b on off)) < 2 ^ 64
      → Wrote old k (entries_of (support_clauses a on)) r new → r + length (entries_of (support_clauses b off)) < 2 ^ 64
  room_second k h w = omega (arith, both_long, w.next)

  pub wrote_both : {old mid new : List ℤ} {at r s : ℕ} → Wrote old at (entries_of (support_clauses a on)) r mid
      → Wrote mid r (entries_of (support_clauses b off)) s new → Wrote old at (entries_of (soft_with Support a b on off)) s new
  wrote_both p q = rw both (wrote_append p q)

-- ---- the end that is taken

-- an end's list is short
pub end_short : (e : End) → Small e → 0 + length (entries_of (support_clauses e [])) < 2 ^ 64
unfolding soft_with
end_short e S = omega (arith, (soft_room e e S S [] [] (omega arith) (omega arith) First).entries)

module _ (a b : End) where
  one_of : (o : Bool) → cond o (entries_of (support_clauses b [])) (entries_of (support_clauses a [])) ≡ entries_of (support_clauses (cond o b a) [])
  one_of true = refl
  one_of false = refl

  taken : (s o : Bool) → o ≡ second_by s (end_tally a) (end_tally b)
      → cond o (entries_of (support_clauses b [])) (entries_of (support_clauses a [])) ≡ entries_of (chosen s a b)
  unfolding soft_with
  taken true o p = rw (score_picks a b, ← p) (one_of o)
  taken false o p = rw (literals_picks a b, ← p) (one_of o)

-- a slice begins with the list that was written at its start, if it holds it
pub begins : {vs old new : List ℤ} {r : ℕ} → Wrote old 0 vs r new → length vs ≤ length old → take r new ≡ vs
begins {vs} {old} {new} {r} w h =
    let e : length vs ≡ r = omega (arith, w.next) in
    rw w.list (sets_begins vs old r e (omega arith))

-- both lists written, the part that is handed on is the list of the end that is taken
pub handed_on : (s : Bool) (a b : End) {f g f' g' : List ℤ} {m n : ℕ}
    → Wrote f 0 (entries_of (support_clauses a [])) m f' → length (entries_of (support_clauses a [])) ≤ length f
    → Wrote g 0 (entries_of (support_clauses b [])) n g' → length (entries_of (support_clauses b [])) ≤ length g
    → (o : Bool) {part : List ℤ} → o ≡ second_by s (end_tally a) (end_tally b) → part ≡ cond o (take n g') (take m f') → part ≡ entries_of (chosen s a b)
handed_on s a b p h q k o e r = r ∙ ap₂ (cond o) (begins q k) (begins p h) ∙ taken a b s o e
