-- The two choices and the table, judged: 8 for an unknown encoding, then the table's refusal. Every answer that starts so rests on `over`.
use Rattle.std.specs.Prelude.{length, Result, Ok, Err}
use Rattle.refusal.specs.declared.Refusal.{Refusal}
use Rattle.table.specs.Table.{Table, boxes}
use Rattle.table.specs.Words.{Outcome, refused, accepted}
use Rattle.clause.specs.declared.Encoding.{Encoding}
use Rattle.table.specs.declared.Counts.{Counts}

-- an answer over an encoding and a judged table: `good` where both are
abbrev pub over : {A : Type 0} → Result Encoding Refusal → Outcome → (Refusal → A) → (Encoding → Table → A) → A
over (Err f) o bad good = bad f
over (Ok e) (refused f) bad good = bad f
over (Ok e) (accepted t) bad good = good e t

abbrev pub asked_of : Result Encoding Refusal → Outcome → Result (Encoding × Counts) Refusal
asked_of p o = over p o Err (λ e t. Ok (e, record { boxes = boxes t; pairs = length t.pairs }))
