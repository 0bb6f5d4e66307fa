-- What it is that a box holds a value, for any numbers of its variables; it holds one exactly if one of its variables is true.
use mathlib.Core.Path.{◌≡◌, refl, sym, ◌∙◌}
use mathlib.Core.Logic.{◌↔◌, ◌≢◌}
use Prim.Native.Nat.{ℕ, zero, suc, ◌+◌, ◌≤◌, ◌<◌}
use native.Mathlib.Omega.{arith}
use mathlib.Core.Bool.{Bool, true, false, cond}
use lib.Dec.{eqb, leb}
use borrow.Author.Tests.{eq-eqb, ne_eqb}
use Rattle.lists.specs.Lists.{count, sum_of}
use Rattle.lists.proofs.Truth.{test, same}
use Rattle.lists.proofs.Runs.{sum_only}
use Rattle.clause.specs.Clause.{Reading}

-- the box holds value a: of its variables the one of value a is true, and no other
pub record Holds (ν : Reading) (x : ℕ → ℕ) (m a : ℕ) : Type 0 where
  pub low : 1 ≤ a
  pub high : a ≤ m
  pub at : (j : ℕ) → 1 ≤ j → j ≤ m → ν (x j) ≡ eqb j a

pub holds_is : {ν : Reading} {x : ℕ → ℕ} {m a : ℕ} → Holds ν x m a → ν (x a) ≡ true
holds_is {a} H = H.at a H.low H.high ∙ eq-eqb a a refl

pub holds_not : {ν : Reading} {x : ℕ → ℕ} {m a : ℕ} → Holds ν x m a → (j : ℕ) → 1 ≤ j → j < 1 + m → j ≢ a → ν (x j) ≡ false
holds_not {a} H j l h q = H.at j l (omega arith) ∙ ne_eqb j a q

-- its thresholds say the same
abbrev pub Climbs : Reading → (ℕ → ℕ) → ℕ → ℕ → Type 0
Climbs ν r m a = (j : ℕ) → 2 ≤ j → j ≤ m → ν (r j) ≡ leb j a

-- ---- exactly one entry is 1

-- how many of a run of variables are true
abbrev pub trues : (ℕ → Bool) → ℕ → ℕ → ℕ
trues f s n = sum_of (λ j. cond (f j) 1 0) (count s n)

none_true : (f : ℕ → Bool) (s n : ℕ) → trues f s n ≡ 0 → (j : ℕ) → s ≤ j → j < s + n → f j ≡ false
none_true f s zero e j l h = absurd (omega arith)
none_true f s (suc n) e j l h =
    test (f s) (λ p. absurd (omega (arith, rw p at e)))
    (λ p. same s j (λ q. rw (← q) p) (λ q. none_true f (suc s) n (omega (arith, rw p at e)) j (omega arith) (omega arith)))

one_true : (f : ℕ → Bool) (s n : ℕ) → trues f s n ≡ 1 → (a : ℕ) × (s ≤ a) × (a < s + n) × ((j : ℕ) → s ≤ j → j < s + n → f j ≡ eqb j a)
one_true f s zero e = absurd (omega arith)
one_true f s (suc n) e =
    test (f s)
    (λ p. (
      s,
      omega arith,
      omega arith,
      λ j l h.
          same s j (λ q. rw (← q) (p ∙ sym (eq-eqb s s refl)))
          (λ q. none_true f (suc s) n (omega (arith, rw p at e)) j (omega arith) (omega arith) ∙ sym (ne_eqb j s (λ z. omega arith))),
    ))
    (λ p. let (a, l, h, t) = one_true f (suc s) n (omega (arith, rw p at e)) in (
      a,
      omega arith,
      omega arith,
      λ j u v.
          same s j (λ q. rw (← q) (p ∙ sym (ne_eqb s a (λ z. omega arith)))) (λ q. t j (omega arith) (omega arith)),
    ))

-- a box holds a value exactly if one of its variables is true
pub holds_exact : (ν : Reading) (x : ℕ → ℕ) (m : ℕ) → (trues (λ j. ν (x j)) 1 m ≡ 1) ↔ ((a : ℕ) × Holds ν x m a)
holds_exact ν x m = (
  λ e. let (a, l, h, t) = one_true (λ j. ν (x j)) 1 m e in (a, record { low = l; high = omega arith; at = λ j p q. t j p (omega arith) }),
  λ w.
      let a = w.0 in
      let H = w.1 in
      sum_only (λ j. cond (ν (x j)) 1 0) 1 m a H.low (omega (arith, H.high)) (λ j u v q. rw (holds_not H j u v q))
      ∙ rw (holds_is H),
)
