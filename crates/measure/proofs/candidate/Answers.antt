-- Either end is as the count asks. The check finds the rest.
use Rattle.sight.proofs.Sight.{sees, both_seen}
use Rattle.clause.specs.Ends.{one}
use Rattle.measure.proofs.candidate.Goals as goal

pub candidate_length-requires : goal.candidate_length-requires
candidate_length-requires c = (both_seen c.from_first-first.ensures c.turned.ensures c.requires.0 c.requires.1).1.well

pub candidate_length-requires-2 : goal.candidate_length-requires-2
candidate_length-requires-2 c = (sees _ _ one _ c.from_first-first.ensures c.requires.0 c.requires.1).well
