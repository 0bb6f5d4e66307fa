-- The clauses of the values left are still owed.
use Rattle.ends.proofs.Texts.{text_from}
use Rattle.ends.specs.Seen.{end_of}
use Rattle.clause.specs.Clause.{entries_of}
use Rattle.clause.specs.Ends.{direct_row, direct_clauses}
use Rattle.lists.specs.Stores.{Owes}
use Rattle.direct.proofs.put_direct.Given as goal

abbrev pub invariant-loop-j : goal.invariant-loop-j
invariant-loop-j l =
    let e = end_of l.words l.seen in
    Owes l.initial.out l.from (entries_of (direct_clauses e)) l.out l.at (text_from (direct_row e) l.seen.mine l.j)
