-- What was read lies in the table and in the list.
use Rattle.decode.proofs.Within.{read_most}
use Rattle.list_in.specs.Listed.{over}
use lib.Seq.{length-take-le}
use mathlib.Core.Path.{sym}
use native.Mathlib.Omega.{arith}
use Rattle.decode.proofs.judge.Goals as goal

pub slice_bounds-table-end : goal.slice_bounds-table-end
slice_bounds-table-end g c = omega (arith, (read_most (over c.args.text.now) 4930 2240 c.in_ok-read.ensures.answer).0, c.read_list.auto.table)

pub slice_bounds-words-end : goal.slice_bounds-words-end
slice_bounds-words-end g c =
    sym (length-take-le _ _ (omega (arith, (read_most (over c.args.text.now) 4930 2240 c.in_ok-read.ensures.answer).0, c.read_list.auto.table)))

pub slice_bounds-list-end : goal.slice_bounds-list-end
slice_bounds-list-end g c = omega (arith, (read_most (over c.args.text.now) 4930 2240 c.in_ok-read.ensures.answer).1, c.read_list.auto.list)

pub slice_bounds-entries-end : goal.slice_bounds-entries-end
slice_bounds-entries-end g c =
    sym (length-take-le _ _ (omega (arith, (read_most (over c.args.text.now) 4930 2240 c.in_ok-read.ensures.answer).1, c.read_list.auto.list)))
