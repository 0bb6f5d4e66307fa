-- The rule of a constant table, proved at each of its entries by one test over them all, which antt computes.
use mathlib.Core.Path.{◌≡◌}
use mathlib.Core.Bool.{Bool, true, ◌&&◌}
use mathlib.Core.List.{List, [], ◌∷◌}
use Prim.Native.Nat.{ℕ, zero, suc, ◌+◌, ◌<◌}
use native.Mathlib.Nat.{zero-add, add-zero}
use native.Mathlib.Omega.{arith}
use lib.ListN.{length, get_or}
use Rattle.lists.proofs.Truth.{and_left, and_right}

-- f passes at each entry and its index, which counts from i
abbrev pub every : (ℕ → ℕ → Bool) → ℕ → List ℕ → Bool
every f i [] = true
every f i (a ∷ l) = f i a && every f (suc i) l

from : (f : ℕ → ℕ → Bool) (i : ℕ) (l : List ℕ) → every f i l ≡ true → (k : ℕ) → k < length l → f (i + k) (get_or l k 0) ≡ true
from f i [] e k h = absurd (omega arith)
from f i (a ∷ l) e zero h = rw add-zero (and_left (f i a) (every f (suc i) l) e)
from f i (a ∷ l) e (suc k) h =
    let z : i + suc k ≡ suc i + k = omega arith in
    rw z (from f (suc i) l (and_right (f i a) (every f (suc i) l) e) k (omega arith))

pub at_every : (f : ℕ → ℕ → Bool) (l : List ℕ) → every f 0 l ≡ true → (k : ℕ) → k < length l → f k (get_or l k 0) ≡ true
at_every f l e k h = rw zero-add at (from f 0 l e k h)
