-- Reading a list that is written block by block. Blocks and entries go by their own numbers, which start at s: entry number j stands at index j - s.
use mathlib.Core.Path.{◌≡◌, refl, ap, ap₂, ◌∙◌}
use Prim.Native.Nat.{ℕ, zero, suc, ◌+◌, ◌-◌, ◌≤◌, ◌<◌}
use native.Mathlib.Nat.{zero-add, add_assoc, sub_self}
use native.Mathlib.Omega.{arith}
use mathlib.Core.List.{List, [], ◌∷◌, ◌++◌, map, flat_map, append_assoc}
use lib.ListN.{length, get_or, take, length-append, get_or-append}
use lib.Seq.{get_or-append-add}
use Rattle.lists.specs.Lists.{count, sum_of}
use Rattle.lists.proofs.Truth.{same}

pub length_count : (s n : ℕ) → length (count s n) ≡ n
length_count s zero = refl
length_count s (suc n) = ap suc (length_count (suc s) n)

next : (s j : ℕ) → s < j → j - s ≡ suc (j - suc s)
next s j h = omega arith

-- what f makes of number j of a run
pub run_at : {A : Type 0} (f : ℕ → A) (s n j : ℕ) (d : A) → s ≤ j → j < s + n → get_or (map f (count s n)) (j - s) d ≡ f j
run_at f s zero j d l h = absurd (omega arith)
run_at f s (suc n) j d l h =
    same s j (λ q. rw (q, sub_self))
    (λ q. rw (next s j (omega arith)) (run_at f (suc s) n j d (omega arith) (omega arith)))

-- the blocks g s, g (s+1), .. are as long as the list says
abbrev pub Long : {A : Type 0} → List ℕ → (ℕ → List A) → ℕ → Type 0
Long ms g s = (b : ℕ) → s ≤ b → b < s + length ms → length (g b) ≡ get_or ms (b - s) 0

long_head : {A : Type 0} (m : ℕ) (ms : List ℕ) (g : ℕ → List A) (s : ℕ) → Long (m ∷ ms) g s → length (g s) ≡ m
long_head m ms g s L = L s (omega arith) (omega arith) ∙ rw sub_self

long_tail : {A : Type 0} (m : ℕ) (ms : List ℕ) (g : ℕ → List A) (s : ℕ) → Long (m ∷ ms) g s → Long ms g (suc s)
long_tail m ms g s L b l h = L b (omega arith) (omega arith) ∙ rw (next s b (omega arith))

pub flat_length : {A : Type 0} (ms : List ℕ) (g : ℕ → List A) (s : ℕ) → Long ms g s → length (flat_map g (count s (length ms))) ≡ sum_of (λ m. m) ms
unfolding flat_map
flat_length [] g s L = refl
flat_length (m ∷ ms) g s L =
    length-append (g s) (flat_map g (count (suc s) (length ms)))
    ∙ ap₂ ◌+◌ (long_head m ms g s L) (flat_length ms g (suc s) (long_tail m ms g s L))

-- entry i of block b stands after the blocks before it
pub flat_at : {A : Type 0} (ms : List ℕ) (g : ℕ → List A) (s : ℕ) (rest : List A) (b i : ℕ) (d : A)
    → Long ms g s → s ≤ b → b < s + length ms → i < get_or ms (b - s) 0
    → get_or (flat_map g (count s (length ms)) ++ rest) (sum_of (λ m. m) (take (b - s) ms) + i) d ≡ get_or (g b) i d
unfolding flat_map
flat_at [] g s rest b i d L l h k = absurd (omega arith)
flat_at (m ∷ ms) g s rest b i d L l h k =
    same s b
    (λ q. rw (← q, sub_self, append_assoc, zero-add)
    (get_or-append (g s) (flat_map g (count (suc s) (length ms)) ++ rest) d i (rw (long_head m ms g s L) (rw (← q, sub_self) at k))))
    (λ q.
    let z = next s b (omega arith) in
    let tl = flat_map g (count (suc s) (length ms)) ++ rest in
    let u = sum_of (λ (m : ℕ). m) (take (b - suc s) ms) in
    let y : m + u + i ≡ length (g s) + (u + i) = rw (long_head m ms g s L) (add_assoc m u i) in
    rw (z, append_assoc, y)
    (get_or-append-add (g s) tl (u + i) d ∙ flat_at ms g (suc s) rest b i d (long_tail m ms g s L) (omega arith) (omega arith) (rw z at k)))
