-- The second end's clauses are put where the first one's ended.
use Rattle.both_ends.proofs.Ends.{room_first, room_second, wrote_both}
use Rattle.both_ends.proofs.put_both.Goals as goal

pub put_support-next-requires : goal.put_support-next-requires
put_support-next-requires c = (c.requires.0, c.requires.2, room_first _ _ _ _ c.args.cursor c.requires.3)

pub put_support-requires : goal.put_support-requires
put_support-requires c = (c.requires.1, c.requires.2, room_second _ _ _ _ c.args.cursor c.requires.3 c.put_support-next.ensures)

pub returns : goal.returns
returns c = wrote_both _ _ _ _ c.put_support-next.ensures c.put_support.ensures
