-- The check's answer, as a definition of the inputs; and what it says in document 01's terms.
use Rattle.refusal.specs.declared.Refusal.{Refusal}
use Rattle.std.specs.Prelude.{Result, Ok, Err}
use Rattle.std.specs.Prelude.{ℕ, ◌≡◌, List, [], ◌∷◌, length}
use Rattle.table.specs.declared.Counts.{Counts}
use Rattle.refusal.specs.Refusals.{Says, gives, refusal_says}
use Rattle.table.specs.Table.{boxes}
use Rattle.table.specs.Words.{Outcome, refused, accepted, table_of, Accepted}

abbrev pub checked_of : Outcome → Result Counts Refusal
checked_of (refused f) = Err f
checked_of (accepted t) = Ok (record { boxes = boxes t; pairs = length t.pairs })

-- success gives the two counts
abbrev pub checked_says : Result Counts Refusal → Says
checked_says (Err f) = refusal_says f
checked_says (Ok c) = gives (c.boxes ∷ c.pairs ∷ [])

-- the words are a table, and these are its counts: what a building block above the check asks for
pub record Counted (ws : List ℕ) (c : Counts) : Type 0 where
  pub table : Accepted ws
  pub boxes : c.boxes ≡ boxes (table_of ws)
  pub pairs : c.pairs ≡ length (table_of ws).pairs
