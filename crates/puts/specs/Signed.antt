-- Signed entries as the clause list has them.
use Rattle.std.specs.Prelude.{ℕ, ℤ, pos, neg_ℤ}

-- the literal of a negated variable
abbrev pub neg : ℕ → ℤ
neg v = neg_ℤ (pos v)
