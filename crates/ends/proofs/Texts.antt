-- The text of clauses, each closed by a 0, turn by turn.
use mathlib.Core.Path.{◌≡◌, ap, ◌∙◌}
use mathlib.Core.List.{List, [], ◌∷◌, ◌++◌, flat_map, append-nil}
use Prim.Native.Nat.{ℕ, ◌+◌, ◌≤◌, ◌<◌}
use lib.ListN.{length}
use lib.IntN.{ℤ}
use Rattle.lists.specs.Stores.{Wrote, Owes}
use Rattle.lists.proofs.Stores.{owes_room, owes_part, owes_none}
use Rattle.clause.specs.Clause.{Clause, closed, entries_of}
use Rattle.clause.proofs.Lengths.{entries_of_none, entries_of_append}
use Rattle.ends.proofs.Values.{flat_from, flat_turn, flat_none}

pub entries_one : (c : Clause) → entries_of (c ∷ []) ≡ closed c
unfolding entries_of flat_map
entries_one c = append-nil (closed c)

-- ---- a loop that writes the clauses of one value after the other

-- the text of what g gives for the values j, j + 1, .., m
abbrev pub text_from : (ℕ → List Clause) → ℕ → ℕ → List ℤ
text_from g m j = entries_of (flat_from g m j)

module _ (g : ℕ → List Clause) (m : ℕ) where
  pub text_turn : (j : ℕ) → j ≤ m → text_from g m j ≡ entries_of (g j) ++ text_from g m (j + 1)
  text_turn j h = ap entries_of (flat_turn g m j h) ∙ entries_of_append (g j) (flat_from g m (j + 1))

  pub text_none : (j : ℕ) → m < j → text_from g m j ≡ []
  text_none j h = ap entries_of (flat_none g m j h) ∙ entries_of_none

  module _ {old all out : List ℤ} {start at : ℕ} (j : ℕ) (o : Owes old start all out at (text_from g m j)) where
    -- a turn has room, leaves the values after j owed, and after the last one all is written
    pub turn_room : {k : ℕ} → j ≤ m → start + length all < k → at + length (entries_of (g j)) < k
    turn_room h room = owes_room (entries_of (g j)) (text_from g m (j + 1)) o (text_turn j h) room

    pub turn_part : {new : List ℤ} {r : ℕ} → j ≤ m → Wrote out at (entries_of (g j)) r new → Owes old start all new r (text_from g m (j + 1))
    turn_part h w = owes_part o (text_turn j h) w

    pub turn_none : m < j → Wrote old start all at out
    turn_none h = owes_none o (text_none j h)
