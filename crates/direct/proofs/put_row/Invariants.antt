-- The clauses of value j with the other box's values left are still owed.
use Rattle.ends.proofs.Texts.{text_from}
use Rattle.ends.specs.Seen.{end_of}
use Rattle.clause.specs.Clause.{entries_of}
use Rattle.clause.specs.Ends.{direct_at, direct_row}
use Rattle.lists.specs.Stores.{Owes}
use Rattle.direct.proofs.put_row.Given as goal

abbrev pub invariant-loop-i : goal.invariant-loop-i
invariant-loop-i l =
    let e = end_of l.words l.seen in
    Owes l.initial.out l.from (entries_of (direct_row e l.j)) l.out l.at (text_from (direct_at e l.j) l.seen.theirs l.i)
