-- What reading a sheet with its list answers, and what the lent table and the lent list hold after.
use Rattle.std.specs.Prelude.{ℕ, ◌≡◌, List, [], ◌∷◌, length, eqb, Result, Ok, Err}
use Rattle.std.proofs.Math.Option.{Option}
use Rattle.lists.specs.Firsts.{◌then◌, unless}
use Rattle.refusal.specs.declared.Refusal.{Refusal}
use Rattle.refusal.specs.declared.Refusal.TheVariants.{Length}
use Rattle.refusal.specs.Refusals.{result_of, Says, gives, refusal_says}
use Rattle.table.specs.Table.{Table}
use Rattle.table.specs.Words.{table_of}
use Rattle.clause.specs.declared.Encoding.{Encoding}
use Rattle.clause.specs.Encodings.{picked_of}
use Rattle.clause.specs.Numbers.{variables}
use Rattle.decoder.specs.Answers.{room_fault, buffer_with}
use Rattle.list_store.specs.declared.ReadList.{ReadList}
use Rattle.list_store.specs.Listed.{Listed, listed, faulty}

abbrev pub entries_due : Result Encoding Refusal → Table → ℕ
entries_due (Ok e) t = variables t e.hard e.side
entries_due (Err f) t = 0

-- how many entries a list has for the table of these words and the choices of these numbers
unfoldable pub wanted : ℕ → ℕ → List ℕ → ℕ
wanted hard side ws = entries_due (picked_of hard side) (table_of ws)

-- 10 for a list of another length, then 9 for a lent list that is too short, and then for a lent table
unfoldable pub fault : ℕ → ℕ → List ℕ → List ℕ → (tableRoom listRoom : ℕ) → Option Refusal
fault hard side ws l tableRoom listRoom =
    unless (eqb (length l) (wanted hard side ws)) (Length (wanted hard side ws))
    then room_fault (length l) listRoom
    then room_fault (length ws) tableRoom

-- the two choices, how many words the table has and how many entries the list
abbrev pub list_given : (hard side words entries : ℕ) → Result ReadList Refusal
list_given h d n m = Ok (record { hard = h; side = d; words = n; entries = m })

-- 13 first
abbrev pub read_of : Listed → (tableRoom listRoom : ℕ) → Result ReadList Refusal
read_of (faulty l) tableRoom listRoom = Err (Refusal.Line l)
read_of (listed hard side ws l) tableRoom listRoom =
    result_of (fault hard side ws l tableRoom listRoom) (record { hard = hard; side = side; words = length ws; entries = length l })

-- what the table holds after, if the two buffers held these
abbrev pub table_after : Listed → (table list : List ℕ) → List ℕ
table_after (faulty k) table list = table
table_after (listed hard side ws l) table list = buffer_with (fault hard side ws l (length table) (length list)) table ws

abbrev pub list_after : Listed → (table list : List ℕ) → List ℕ
list_after (faulty k) table list = list
list_after (listed hard side ws l) table list = buffer_with (fault hard side ws l (length table) (length list)) list l

-- the answer r and both buffers after, of a text that holds x
pub record Answered (x : Listed) (table list : List ℕ) (r : Result ReadList Refusal) (table' list' : List ℕ) : Type 0 where
  pub answer : r ≡ read_of x (length table) (length list)
  pub words : table' ≡ table_after x table list
  pub entries : list' ≡ list_after x table list

-- success gives the two choices and the two lengths
abbrev pub read_says : Result ReadList Refusal → Says
read_says (Err f) = refusal_says f
read_says (Ok r) = gives (r.hard ∷ r.side ∷ r.words ∷ r.entries ∷ [])
