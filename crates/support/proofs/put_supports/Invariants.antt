-- The supporting values among those left are still owed.
use Rattle.support.proofs.Support.{support_from}
use Rattle.ends.specs.Seen.{end_of}
use Rattle.clause.specs.Clause.{coded}
use Rattle.clause.specs.Ends.{supports}
use Rattle.lists.specs.Stores.{Owes}
use mathlib.Core.List.{map}
use Rattle.support.proofs.put_supports.Given as goal

abbrev pub invariant-loop-i : goal.invariant-loop-i
invariant-loop-i l =
    let e = end_of l.words l.seen in
    Owes l.initial.out l.from (map coded (supports e l.j)) l.out l.at (support_from e l.j l.i)
