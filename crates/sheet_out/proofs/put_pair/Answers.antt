-- The head's lines, and then a line for each mask. The check finds the rest.
use Rattle.sheet_out.proofs.Parts.{head_second, pair_is, pair_long}
use Rattle.lists.proofs.Stores.{wrote_append}
use native.Mathlib.Omega.{arith}
use Rattle.sheet_out.proofs.put_pair.Goals as goal

pub put_head-rows-requires : goal.put_head-rows-requires
put_head-rows-requires c = omega (arith, c.requires.2, pair_long c.args.words.now c.args.cursor c.requires.0 c.args.pair c.requires.1)

pub size-requires : goal.size-requires
size-requires c = head_second c.args.words.now c.args.cursor c.requires.0 c.args.pair c.requires.1

pub returns : goal.returns
returns c =
    rw (pair_is c.args.words.now c.args.cursor c.requires.0 c.args.pair c.requires.1)
    (wrote_append c.put_head-rows.ensures (rw c.size.ensures at c.put_rows.ensures))
