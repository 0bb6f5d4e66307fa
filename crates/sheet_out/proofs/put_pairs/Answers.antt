-- A pair's lines more. The check finds the rest.
use Rattle.sheet_out.proofs.Parts.{paired_stands, paired_room, paired_turn}
use Rattle.sheet_out.proofs.put_pairs.Goals as goal

pub put_pair-at-requires : goal.put_pair-at-requires
put_pair-at-requires c =
    let ws = c.args.words.now in (
      paired_stands ws c.loop.invariant c.loop-test.true,
      c.pair_at-pair.ensures,
      paired_room ws c.loop.invariant c.loop-test.true c.requires.1,
    )

pub loop-preserved : goal.loop-preserved
loop-preserved c = paired_turn c.args.words.now c.loop.invariant c.loop-test.true c.pair_at-pair.ensures c.put_pair-at.ensures
