-- The weight where one is due, a space, and the entry. The check finds that there is room.
use Rattle.lists.proofs.Stores.{wrote_append}
use Rattle.wcnf.proofs.Signed.{back}
use Rattle.wcnf.proofs.put_entry.Goals as goal

pub returns : goal.returns
returns c =
    let put = rw (back c.args.past c.ranges.past) at c.put_opening-space.ensures in
    let last = rw (back c.args.v c.ranges.v) at c.put_ending.ensures in
    wrote_append put (wrote_append c.put-number.ensures last)
