-- The part that is handed on is the list of the end that is taken.
use Rattle.both_ends.proofs.Ends.{end_short, handed_on}
use Rattle.sight.proofs.Sight.{seen_small}
use Rattle.both_ends.proofs.put_chosen.Goals as goal

pub put_support-la-requires : goal.put_support-la-requires
put_support-la-requires c = (c.requires.0, tt, end_short _ (seen_small c.requires.0))

pub put_support-lb-requires : goal.put_support-lb-requires
put_support-lb-requires c = (c.requires.1, tt, end_short _ (seen_small c.requires.1))

pub put_all-requires : goal.put_all-requires
put_all-requires c =
    let part = handed_on c.args.by_score _ _ c.put_support-la.ensures c.requires.2 c.put_support-lb.ensures c.requires.3 _ c.takes_second-over.ensures c.better-part.ensures in
    rw part c.requires.4

pub returns : goal.returns
returns c =
    let part = handed_on c.args.by_score _ _ c.put_support-la.ensures c.requires.2 c.put_support-lb.ensures c.requires.3 _ c.takes_second-over.ensures c.better-part.ensures in
    (rw part at c.put_all.ensures, c.put_support-la.ensures.list, c.put_support-lb.ensures.list)
