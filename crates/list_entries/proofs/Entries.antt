-- How many entries there are, each of them, and the loop that stores them.
use Prim.Native.Nat.{ℕ, zero, suc, ◌+◌, ◌≤◌, ◌<◌}
use native.Mathlib.Omega.{arith}
use mathlib.Core.Path.{◌≡◌, refl}
use mathlib.Core.List.{List, [], ◌∷◌}
use lib.ListN.{length, get_or}
use lib.Seq.{sets}
use Rattle.lists.specs.Stores.{Wrote}
use Rattle.lists.proofs.Stores.{Copied, copied_turn, copied_all}
use Rattle.list_entries.specs.Entries.{entry_of_lem, entries_of}

pub length_entries : (l : List ℕ) → length (entries_of l) ≡ length l
unfolding entries_of
length_entries [] = refl
length_entries (c ∷ l) = rw (length_entries l)

entry_at : (s : List ℕ) (i : ℕ) → i < length s → get_or (entries_of s) i 0 ≡ entry_of_lem (get_or s i 0)
unfolding entries_of
entry_at [] i h = absurd (omega arith)
entry_at (c ∷ s) zero h = refl
entry_at (c ∷ s) (suc i) h = entry_at s i (omega arith)

pub entries_turn : (s : List ℕ) {old out new : List ℕ} {at i r v : ℕ} → Copied old 0 (entries_of s) out at i → i < length s
    → v ≡ entry_of_lem (get_or s i 0) → Wrote out at (v ∷ []) r new → Copied old 0 (entries_of s) new r (i + 1)
entries_turn s {i = i} C h e w = copied_turn 0 C (omega (arith, length_entries s)) (rw (entry_at s i h) (rw e at w))

pub entries_all : (s : List ℕ) {old out : List ℕ} {at i : ℕ} → Copied old 0 (entries_of s) out at i → length s ≤ i → out ≡ sets old 0 (entries_of s)
entries_all s C h = (copied_all C (omega (arith, length_entries s))).list
