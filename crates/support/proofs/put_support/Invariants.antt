-- The clauses of the values left are still owed.
use Rattle.support.specs.Tails.{tail_of}
use Rattle.ends.proofs.Texts.{text_from}
use Rattle.ends.specs.Seen.{end_of}
use Rattle.clause.specs.Clause.{entries_of}
use Rattle.clause.specs.Ends.{support_at, support_clauses}
use Rattle.lists.specs.Stores.{Owes}
use Rattle.support.proofs.put_support.Given as goal

abbrev pub invariant-loop-j : goal.invariant-loop-j
invariant-loop-j l =
    let e = end_of l.words l.seen in
    Owes l.initial.out l.from (entries_of (support_clauses e (tail_of l.tail))) l.out l.at (text_from (support_at e (tail_of l.tail)) l.seen.mine l.j)
