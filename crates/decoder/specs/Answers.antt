-- The answers of the decoder and of the list maker, and what their lent buffers hold after.
use Rattle.std.specs.Prelude.{ℕ, List, [], ◌∷◌, length, leb, Result, Ok, Err}
use Rattle.std.proofs.Math.Option.{Option, none, some}
use Rattle.std.proofs.lemmas.List.Edits.{sets}
use Rattle.lists.specs.Firsts.{◌then◌, unless}
use Rattle.refusal.specs.declared.Refusal.{Refusal}
use Rattle.refusal.specs.declared.Refusal.TheVariants.{Room}
use Rattle.refusal.specs.Refusals.{result_of, Says, gives, refusal_says}
use Rattle.table.specs.Table.{Table, boxes}
use Rattle.table.specs.Words.{Outcome}
use Rattle.plan.specs.Plan.{cost, plan_fault}
use Rattle.clause.specs.declared.Encoding.{Encoding}
use Rattle.clause.specs.Numbers.{variables}
use Rattle.asked.specs.Asked.{over}
use Rattle.list_judge.specs.Faults.{list_fault}
use Rattle.decoder.specs.Lists.{plan_of, made}

-- ---- what a refusal leaves, and success

-- 9 if a lent buffer of this room does not hold what is needed
abbrev pub room_fault : (needed room : ℕ) → Option Refusal
room_fault needed room = unless (leb needed room) (Room needed)

-- a lent buffer after: a refusal writes nothing, and else vs stands in it from its start on
abbrev pub buffer_with : Option Refusal → List ℕ → List ℕ → List ℕ
buffer_with none old vs = sets old 0 vs
buffer_with (some f) old vs = old

-- ---- the decoder: the lent plan has `room` entries

-- over an accepted table: the list's faults, then 9 for the plan
unfoldable pub decode_fault : Encoding → Table → List ℕ → ℕ → Option Refusal
decode_fault e t l room = list_fault e.hard e.side t l then room_fault (boxes t) room

-- 8, then the table's refusals, then those over an accepted table; else the cost
abbrev pub decoded_of : Result Encoding Refusal → Outcome → List ℕ → (room : ℕ) → Result ℕ Refusal
decoded_of p o l room = over p o Err (λ e t. result_of (decode_fault e t l room) (cost t (plan_of t l)))

-- what the lent plan holds after, if it held `old`
abbrev pub plan_after : Result Encoding Refusal → Outcome → List ℕ → (old : List ℕ) → List ℕ
plan_after p o l old = over p o (λ f. old) (λ e t. buffer_with (decode_fault e t l (length old)) old (plan_of t l))

-- success gives the cost
abbrev pub decoded_says : Result ℕ Refusal → Says
decoded_says (Err f) = refusal_says f
decoded_says (Ok c) = gives (c ∷ [])

-- ---- the list maker: the lent list has `room` entries

-- over an accepted table: the plan's faults, then 9 for the list
unfoldable pub make_fault : Encoding → Table → List ℕ → ℕ → Option Refusal
make_fault e t plan room = plan_fault t plan then room_fault (variables t e.hard e.side) room

abbrev pub made_of : Result Encoding Refusal → Outcome → List ℕ → (room : ℕ) → Result ℕ Refusal
made_of p o plan room = over p o Err (λ e t. result_of (make_fault e t plan room) (variables t e.hard e.side))

-- what the lent list holds after, if it held `old`
abbrev pub list_after : Result Encoding Refusal → Outcome → List ℕ → (old : List ℕ) → List ℕ
list_after p o plan old = over p o (λ f. old) (λ e t. buffer_with (make_fault e t plan (length old)) old (made e.hard e.side t plan))

-- success gives the length of the list
abbrev pub made_says : Result ℕ Refusal → Says
made_says (Err f) = refusal_says f
made_says (Ok n) = gives (n ∷ [])
