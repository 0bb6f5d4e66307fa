-- Both ends are as the counts ask.
use Rattle.sight.proofs.Sight.{both_seen}
use Rattle.pairs.proofs.pair_tally.Goals as goal

pub direct_tally-requires : goal.direct_tally-requires
direct_tally-requires c = (both_seen c.from_first-first.ensures c.turned-second.ensures c.requires.0 c.requires.1).0.well

pub both_tally-requires : goal.both_tally-requires
both_tally-requires c =
    let ends = both_seen c.from_first-first.ensures c.turned-second.ensures c.requires.0 c.requires.1 in
    (ends.0.well, ends.1.well)

pub tally-requires : goal.tally-requires
tally-requires c = (both_seen c.from_first-first.ensures c.turned-second.ensures c.requires.0 c.requires.1).0.well

pub chosen_tally-requires : goal.chosen_tally-requires
chosen_tally-requires c =
    let ends = both_seen c.from_first-first.ensures c.turned-second.ensures c.requires.0 c.requires.1 in
    (ends.0.well, ends.1.well)

pub chosen_tally-requires-in-Score : goal.chosen_tally-requires-in-Score
chosen_tally-requires-in-Score c =
    let ends = both_seen c.from_first-first.ensures c.turned-second.ensures c.requires.0 c.requires.1 in
    (ends.0.well, ends.1.well)
