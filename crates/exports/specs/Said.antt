-- What each exported function is told by the entry point that it calls: its definition over the plain inputs, in the document's terms.
use Rattle.std.specs.Prelude.{ℕ, List, length, ℤ}
use Rattle.refusal.specs.Refusals.{Says}
use Rattle.table.specs.Words.{judged}
use Rattle.table.specs.Answers.{checked_of, checked_says}
use Rattle.plan.specs.Plan.{costed_of, costed_says}
use Rattle.clause.specs.Encodings.{picked_of}
use Rattle.measure.specs.Measures.{measured_of, measured_says, needed_of, needed_says}
use Rattle.whole.specs.Verdict.{Verdict}
use Rattle.encoder.specs.Encoded.{verdict, encoded_of, encoded_says, Outcomes}
use Rattle.decoder.specs.Answers.{decoded_of, decoded_says, made_of, made_says}
use Rattle.sheet_in.specs.Parsed.{parsed, read_of, read_says}
use Rattle.sheet_out.specs.Written as sheets
use Rattle.list_in.specs.Listed.{over}
use Rattle.list_store.specs.Answers as lists
use Rattle.wcnf_out.specs.Written as texts
use Rattle.codes.specs.Codes.{Told}

abbrev pub check_says : List ℕ → Says
check_says ws = checked_says (checked_of (judged ws))

abbrev pub cost_says : List ℕ → List ℕ → Says
cost_says ws plan = costed_says (costed_of (judged ws) plan)

abbrev pub lengths_say : List ℕ → ℕ → ℕ → Says
lengths_say ws hard side = measured_says (measured_of (picked_of hard side) (judged ws))

abbrev pub scratch_says : List ℕ → ℕ → ℕ → Says
scratch_says ws hard side = needed_says (needed_of (picked_of hard side) (judged ws))

-- the judgement of the encoder, its lent buffers included
abbrev pub encode_judged : List ℕ → ℕ → ℕ → (first second literals : List ℤ) → (weights : List ℕ) → Verdict
encode_judged ws hard side first second literals weights = verdict (picked_of hard side) (judged ws) first second literals weights

abbrev pub encode_says : Verdict → Says
encode_says v = encoded_says (encoded_of v)

abbrev pub decode_says : List ℕ → ℕ → ℕ → List ℕ → (room : ℕ) → Says
decode_says ws hard side list room = decoded_says (decoded_of (picked_of hard side) (judged ws) list room)

abbrev pub make_says : List ℕ → ℕ → ℕ → List ℕ → (room : ℕ) → Says
make_says ws hard side plan room = made_says (made_of (picked_of hard side) (judged ws) plan room)

abbrev pub read_sheet_says : List ℕ → (room : ℕ) → Says
read_sheet_says text room = read_says (read_of (parsed text) room)

abbrev pub write_sheet_says : List ℕ → ℕ → ℕ → (room : ℕ) → Says
write_sheet_says ws hard side room = sheets.written_says (sheets.written_of (sheets.sheet_of ws hard side) room)

abbrev pub read_list_says : List ℕ → (tableRoom listRoom : ℕ) → Says
read_list_says text tableRoom listRoom = lists.read_says (lists.read_of (over text) tableRoom listRoom)

-- the judgement of the writer of WCNF text, its lent buffers included
abbrev pub wcnf_judged : List ℕ → ℕ → ℕ → (first second : List ℤ) → (text : List ℕ) → Verdict
wcnf_judged ws hard side first second text = texts.verdict (picked_of hard side) (judged ws) (length first) (length second) (length text)

abbrev pub wcnf_says : Verdict → Says
wcnf_says v = texts.written_says (texts.written_of v)

-- ---- where several buffers are lent: the answer, the slots and each buffer, by the verdict and what they held

pub record Encodes (v : Verdict) (first second literals : List ℤ) (weights slots : List ℕ) (r : ℕ)
    (first' second' literals' : List ℤ) (weights' slots' : List ℕ) : Type 0 where
  pub told : Told (encode_says v) r slots slots'
  pub left : Outcomes v first second literals weights (encoded_of v) first' second' literals' weights'

pub record WritesText (v : Verdict) (first second : List ℤ) (text slots : List ℕ) (r : ℕ) (first' second' : List ℤ) (text' slots' : List ℕ) : Type 0 where
  pub told : Told (wcnf_says v) r slots slots'
  pub left : texts.Outcomes v first second text (texts.written_of v) first' second' text'
