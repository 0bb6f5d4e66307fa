-- The plan that is put after the judgement of a list, and the answer: each exit of the code is one case of the definitions.
use mathlib.Core.Path.{◌≡◌, refl}
use mathlib.Core.Option.{none}
use mathlib.Core.List.{List, map}
use Prim.Native.Nat.{ℕ, ◌+◌, ◌-◌, ◌≤◌}
use native.Mathlib.Nat.{zero-add}
use native.Mathlib.Omega.{arith}
use lib.ListN.{length, take}
use borrow.Author.Tests.{le-leb}
use Rattle.lists.specs.Lists.{count}
use Rattle.lists.specs.Stores.{Wrote}
use Rattle.lists.proofs.Stores.{sets_begins}
use Rattle.table.specs.Table.{Table, boxes}
use Rattle.table.specs.Words.{box_count, table_of, Accepted}
use Rattle.table.proofs.Tables.{table_boxes}
use Rattle.clause.specs.declared.Encoding.{Encoding}
use Rattle.list_boxes.specs.Lists.{value_of}
use Rattle.list_judge.specs.Faults.{list_fault}
use Rattle.decoder.specs.Lists.{plan_of}
use Rattle.decoder.specs.Answers.{decode_fault}

-- ---- the plan

-- a value for each of the n boxes
pub plan_whole : (ws : List ℕ) → Accepted ws → (l : List ℕ) (n : ℕ) → n ≡ box_count ws
    → map (value_of (table_of ws) l) (count 1 (n + 1 - 1)) ≡ plan_of (table_of ws) l
unfolding plan_of
plan_whole ws A l n e =
    let z : n + 1 - 1 ≡ length (table_of ws).sizes = omega (arith, table_boxes ws A) in
    rw z

-- ---- the answer

module _ (e : Encoding) (t : Table) (l : List ℕ) (room : ℕ) where
  pub answer_fine : list_fault e.hard e.side t l ≡ none → boxes t ≤ room → decode_fault e t l room ≡ none
  unfolding decode_fault
  answer_fine w h = rw (w, le-leb (boxes t) room h)

-- a plan that was put where there is room for it is what the buffer begins with
pub put_begins : {old p new : List ℕ} {r : ℕ} → Wrote old 0 p r new → length p ≤ length old → take r new ≡ p
put_begins {old} {p} w h = rw (w.list, w.next, zero-add) (sets_begins p old (length p) refl h)
