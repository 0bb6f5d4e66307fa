-- The first thing found, as a value: nothing found is `none`.
use Rattle.std.specs.Prelude.{Bool, true, false, ℕ, zero, suc, ◌+◌, ◌≤◌, ◌<◌}
use Rattle.std.proofs.Math.Option.{Option, none, some}

-- what the first search finds, and where that finds nothing what the second does
infixr 20 ◌then◌
abbrev pub ◌then◌ : {A : Type 0} → Option A → Option A → Option A
none then g = g
some f then g = some f

module _ {A : Type 0} where
  -- what is found where a test fails
  abbrev pub unless : Bool → A → Option A
  unless true f = none
  unless false f = some f

  -- The first thing found among `count` things that follow each other: f finds what is to be found at a position, next is the position after it.
  unfoldable pub first_of : (ℕ → Option A) → (ℕ → ℕ) → ℕ → ℕ → Option A
  first_of f next zero at = none
  first_of f next (suc k) at = f at then first_of f next k (next at)

-- i is the lowest of the n numbers from a on at which P does not hold
pub record Lowest (P : ℕ → Type 0) (a n i : ℕ) : Type 0 where
  pub low : a ≤ i
  pub high : i < a + n
  pub fails : P i → ⊥
  pub before : (j : ℕ) → a ≤ j → j < i → P j
