-- What is judged before the first store, of a clause list and of its text: nothing is written but of an accepted table, into room enough.
use Rattle.std.proofs.Math.Option.{Option, none, some}
use Rattle.std.specs.Prelude.{List, ℤ}
use Rattle.refusal.specs.declared.Refusal.{Refusal}
use Rattle.table.specs.Table.{Table}
use Rattle.clause.specs.declared.Encoding.{Encoding}
use Rattle.whole.specs.Scratch.{scratch_left}

-- 8, then 1 to 7, then 9; else the encoding and the table
pub data Verdict : Type 0 where
  no : Refusal → Verdict
  yes : Encoding → Table → Verdict

-- by the first buffer that is too short
abbrev pub roomed : Option Refusal → Encoding → Table → Verdict
roomed none e t = yes e t
roomed (some f) e t = no f

abbrev pub scratch_after : Verdict → List ℤ → List ℤ
scratch_after (no f) old = old
scratch_after (yes e t) old = scratch_left e.side old
