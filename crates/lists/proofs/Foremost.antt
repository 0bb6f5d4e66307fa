-- The first thing found, by index: what two searches find one after the other is what one search over both finds.
use mathlib.Core.Path.{◌≡◌, refl}
use mathlib.Core.Option.{Option, none, some}
use Prim.Native.Nat.{ℕ, zero, suc, ◌+◌, ◌≤◌, ◌<◌}
use native.Mathlib.Omega.{arith}
use Rattle.lists.specs.Firsts.{◌then◌, first_of}
use Rattle.lists.proofs.Truth.{order}

module _ {A : Type 0} where
  -- f finds nothing from a up to b
  abbrev pub Clear : (ℕ → Option A) → ℕ → ℕ → Type 0
  Clear f a b = (i : ℕ) → a ≤ i → i < b → f i ≡ none

  -- o is the first thing that f finds from a on; where that is none, it looked up to b
  pub data First (f : ℕ → Option A) (a b : ℕ) : Option A → Type 0 where
    nothing : Clear f a b → First f a b none
    something : {r : A} (i : ℕ) → f i ≡ some r → Clear f a i → First f a b (some r)

  module _ {f : ℕ → Option A} where
    clear_join : {a b c : ℕ} → Clear f a b → Clear f b c → Clear f a c
    clear_join {b} p q i l h = order b i (λ u. q i u h) (λ u. p i l u)

    pub first_then : {a b c : ℕ} {o q : Option A} → First f a b o → First f b c q → First f a c (o then q)
    first_then (nothing p) (nothing q) = nothing (clear_join p q)
    first_then (nothing p) (something i e q) = something i e (clear_join p q)
    first_then (something i e p) q = something i e p

    -- looking at one index
    pub first_one : {a b : ℕ} (o : Option A) → b ≡ a + 1 → f a ≡ o → First f a b o
    first_one {a} none z e = nothing (λ i l h. let y : i ≡ a = omega arith in rw y e)
    first_one {a} (some r) z e = something a e (λ i l h. absurd (omega arith))

    -- looking at n of them
    pub first_run : {g : ℕ → Option A} {b : ℕ} (n a : ℕ) → b ≡ a + n → ((i : ℕ) → a ≤ i → i < b → f i ≡ g i) → First f a b (first_of g (λ i. i + 1) n a)
    unfolding first_of
    first_run zero a z e = nothing (λ i l h. absurd (omega arith))
    first_run {g} (suc n) a z e =
        first_then (first_one (g a) refl (e a (omega arith) (omega arith))) (first_run n (a + 1) (omega arith) (λ i l. e i (omega arith)))

-- what stands at an index with nothing before it is what is found first
pub first_is : {A : Type 0} {f : ℕ → Option A} {b i : ℕ} {o : Option A} {r : A} → First f 0 b o → i < b → f i ≡ some r → Clear f 0 i → o ≡ some r
first_is {i} (nothing p) h e q = cc (p i (omega arith) h)
first_is {i} (something j g p) h e q =
    order i j
    (λ u. order j i (λ v. let z : i ≡ j = omega arith in cc) (λ v. cc (p i (omega arith) v)))
    (λ u. cc (q j (omega arith) u))
