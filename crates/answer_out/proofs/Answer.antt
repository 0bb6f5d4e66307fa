-- How long the texts are at most.
use Prim.Native.Nat.{ℕ, ◌^◌, ◌≤◌, ◌<◌}
use native.Mathlib.Omega.{arith}
use lib.ListN.{length}
use Rattle.text_out.proofs.Texts.{short_line}
use Rattle.answer_out.specs.Answer.{value_key, cost_key, value_line, cost_line}

-- ---- at most: what a program's buffer has to hold

-- a value is a 32-bit word, and a cost one of 64 bits
pub short_value : (v : ℕ) → v < 2 ^ 32 → length (value_line v) ≤ 17
short_value v h = short_line value_key 9 v (omega arith)

pub short_cost : (cost : ℕ) → cost < 2 ^ 64 → length (cost_line cost) ≤ 26
short_cost cost h = short_line cost_key 19 cost (omega arith)
