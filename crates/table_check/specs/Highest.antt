-- What the largest of some words says of each.
use Rattle.std.specs.Prelude.{ℕ, List, get_or, ◌≤◌, ◌<◌}

pub record AtMost (ws : List ℕ) (from to most : ℕ) : Type 0 where
  pub each : (i : ℕ) → from ≤ i → i < to → get_or ws i 0 ≤ most
