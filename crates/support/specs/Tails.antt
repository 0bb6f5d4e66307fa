-- What ends a support clause, and one value of its support.
use Rattle.std.specs.Prelude.{ℕ, ◌^◌, ◌<◌, cond, [], ◌∷◌, Option, Some, None, IfSome}
use Rattle.clause.specs.Clause.{plus, Clause}
use Rattle.clause.specs.Numbers.{value_from}
use Rattle.clause.specs.Ends.{End}
use Rattle.standard.specs.declared.Literal.{Literal}
use Rattle.standard.specs.Writers.{lit_of, number_of}

-- a clause ends in a literal or as it is
abbrev pub tail_of : Option Literal → Clause
tail_of None = []
tail_of (Some l) = lit_of l ∷ []

-- its variable can be written
abbrev pub TailFits : Option Literal → Type 0
TailFits tail = IfSome tail (λ l. number_of l < 2 ^ 31)

-- value i of the other box, where it supports value j
unfoldable pub supporter : End → ℕ → ℕ → Clause
supporter e j i = cond (e.ok j i) (plus (value_from e.other i) ∷ []) []
