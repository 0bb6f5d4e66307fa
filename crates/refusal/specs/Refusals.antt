-- The refusals of document 01: the number and the place of each, and what an answer says in the document's terms.
use Rattle.std.specs.Prelude.{ℕ, List, Result, Ok, Err, ⊤}
use Rattle.std.proofs.Math.Option.{Option, none, some}
use Rattle.refusal.specs.declared.Refusal.{Refusal}
use Rattle.refusal.specs.declared.Refusal.TheVariants.{Missing, Extra, Count, Domain, Partner, Weight, Mask, Choice, Room, Length, Entry, Broken, Line}

abbrev pub number_of : Refusal → ℕ
number_of (Missing at) = 1
number_of (Extra at) = 2
number_of (Count at) = 3
number_of (Domain at) = 4
number_of (Partner at) = 5
number_of (Weight at) = 6
number_of (Mask at) = 7
number_of Choice = 8
number_of (Room needed) = 9
number_of (Length wanted) = 10
number_of (Entry at) = 11
number_of (Broken box) = 12
number_of (Line line) = 13

abbrev pub place_of : Refusal → ℕ
place_of (Missing at) = at
place_of (Extra at) = at
place_of (Count at) = at
place_of (Domain at) = at
place_of (Partner at) = at
place_of (Weight at) = at
place_of (Mask at) = at
place_of Choice = 0
place_of (Room needed) = needed
place_of (Length wanted) = wanted
place_of (Entry at) = at
place_of (Broken box) = box
place_of (Line line) = line

-- An answer: the value, unless something is wrong.
abbrev pub result_of : {T : Type 0} → Option Refusal → T → Result T Refusal
result_of none x = Ok x
result_of (some f) x = Err f

-- The answer of a judgement, which has nothing to give.
abbrev pub judged_of : Option Refusal → Result ⊤ Refusal
judged_of o = result_of o tt

-- What an answer says: on success the document's values in its order, else the refusal's number and place.
pub data Says : Type 0 where
  gives : List ℕ → Says
  refuses : (number place : ℕ) → Says

abbrev pub refusal_says : Refusal → Says
refusal_says f = refuses (number_of f) (place_of f)
