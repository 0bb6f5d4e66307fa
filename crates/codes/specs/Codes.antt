-- An answer as a program in another language gets it: one number, and the values of a success in lent slots.
use Rattle.std.specs.Prelude.{ℕ, ◌+◌, ◌-◌, ◌*◌, ◌^◌, min, ◌≡◌, List}
use Rattle.refusal.specs.Refusals.{Says, gives, refuses}

-- 0 for a success; else the refusal's number in the top byte and its place in the seven bytes below, at most what these hold
abbrev pub code_of : Says → ℕ
code_of (gives vs) = 0
code_of (refuses number place) = number * 2 ^ 56 + min place (2 ^ 56 - 1)

-- the slots after, if they held these: the values of a success, and on a refusal what they held
abbrev pub slots_after : Says → List ℕ → List ℕ
slots_after (gives vs) old = vs
slots_after (refuses number place) old = old

-- what is returned, and what the slots hold after, where this is said
pub record Told (s : Says) (r : ℕ) (old new : List ℕ) : Type 0 where
  pub code : r ≡ code_of s
  pub slots : new ≡ slots_after s old
