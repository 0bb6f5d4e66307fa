-- The first box that is not in order is the first found. The check finds the rest.
use Rattle.list_judge.proofs.Loops.{box_found}
use Rattle.table.specs.Words.{table_of}
use Prim.Native.Nat.{◌+◌}
use mathlib.Core.Path.{sym, ◌∙◌}
use native.Mathlib.Omega.{arith}
use Rattle.list_judge.proofs.boxes.Goals as goal

pub returns-then-not-box_ok : goal.returns-then-not-box_ok
returns-then-not-box_ok c =
    let a = c.args in
    rw (
      c.wide.ensures,
      ← c.loop-b.invariant.2,
      box_found a.hard (table_of a.words.now) a.list.now (c.word-n.result + 1) c.loop-b.b (omega (arith, c.loop-b-test.true))
          (sym c.box_ok.ensures ∙ c.if-not-box_ok.true),
    )
