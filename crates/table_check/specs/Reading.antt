-- What follows the two counts, as a definition of the inputs.
use Rattle.std.specs.Prelude.{ℕ, List, Result}
use Rattle.refusal.specs.declared.Refusal.{Refusal}
use Rattle.refusal.specs.Refusals.{result_of}
use Rattle.table.specs.declared.Counts.{Counts}
use Rattle.table.specs.Words.{body_fault}

-- past the two counts, which are n and p
abbrev pub body_of : List ℕ → ℕ → ℕ → Result Counts Refusal
body_of ws n p = result_of (body_fault ws n p) (record { boxes = n; pairs = p })
