-- The clauses of a pair by its side, and its scratch slices.
use mathlib.Core.Path.{◌≡◌}
use mathlib.Core.Bool.{Bool, true, false}
use mathlib.Core.List.{List, []}
use Prim.Native.Nat.{ℕ, ◌+◌, ◌^◌, ◌≤◌, ◌<◌}
use lib.ListN.{length}
use lib.IntN.{ℤ}
use lib.Seq.{sets}
use Rattle.lists.specs.Stores.{Wrote}
use Rattle.table.specs.Table.{Table, Pair}
use Rattle.clause.specs.declared.Side.{Side}
use Rattle.clause.specs.declared.Side.TheVariants.{Direct, Support, First}
use Rattle.clause.specs.Clause.{Clause, entries_of}
use Rattle.clause.specs.Ends.{End, Which, one, two, end, direct_clauses, support_clauses}
use Rattle.clause.specs.Soft.{soft_with, soft}
use Rattle.clause.specs.Lengths.{candidate_length_lem}
use Rattle.both_ends.specs.Chosen.{choosing, chosen}
use Rattle.soft.specs.Scratch.{pair_scratch, scratch_with}

-- the ends a and b are its own

module _ (t : Table) (p : Pair) (a b : End) (A : a ≡ end t p one) (B : b ≡ end t p two) (on off : Clause) (s : Side) where
  pub direct_is : s ≡ Direct → soft s t on off p ≡ direct_clauses a
  unfolding soft soft_with
  direct_is e = rw (e, A)

  pub support_is : s ≡ Support → soft s t on off p ≡ soft_with Support a b on off
  unfolding soft
  support_is e = rw (e, A, B)

  pub first_is : s ≡ First → soft s t on off p ≡ support_clauses a []
  unfolding soft soft_with
  first_is e = rw (e, A)

  pub chosen_is : (k : Bool) → s ≡ choosing k → soft s t on off p ≡ chosen k a b
  unfolding soft soft_with
  chosen_is true e = rw (e, A, B)
  chosen_is false e = rw (e, A, B)

-- the same clauses under another name
pub room_as : {cs ds : List Clause} → cs ≡ ds → (k : ℕ) → k + length (entries_of cs) < 2 ^ 64 → k + length (entries_of ds) < 2 ^ 64
room_as e k h = rw (← e) h

pub wrote_as : {cs ds : List Clause} → cs ≡ ds → {old new : List ℤ} {at r : ℕ} → Wrote old at (entries_of ds) r new → Wrote old at (entries_of cs) r new
wrote_as e w = rw e w

-- on a side that chooses a scratch slice holds its end's list
pub scratch_holds : (t : Table) (p : Pair) (w : Which) (e : End) → e ≡ end t p w → (s : Side) (k : Bool) → s ≡ choosing k
    → (n : ℕ) → pair_scratch s w t p ≤ n → length (entries_of (support_clauses e [])) ≤ n
unfolding candidate_length_lem
scratch_holds t p w e E s true q n h = rw E (rw q at h)
scratch_holds t p w e E s false q n h = rw E (rw q at h)

-- and is left with that list
pub scratch_left_lem : (t : Table) (p : Pair) (w : Which) (e : End) → e ≡ end t p w → (s : Side) (k : Bool) → s ≡ choosing k
    → (old new : List ℤ) → new ≡ sets old 0 (entries_of (support_clauses e [])) → new ≡ scratch_with s w t p old
scratch_left_lem t p w e E s true q old new h = rw q (rw E at h)
scratch_left_lem t p w e E s false q old new h = rw q (rw E at h)
