-- A mask as a set of numbers counted from 1: bit j-1 says that j is in it.
use Rattle.std.specs.Prelude.{ℕ, ◌-◌, ◌/◌, ◌%◌, ◌^◌, Bool, eqb}

unfoldable pub in_mask : ℕ → ℕ → Bool
in_mask mask j = eqb (mask / 2 ^ (j - 1) % 2) 1
