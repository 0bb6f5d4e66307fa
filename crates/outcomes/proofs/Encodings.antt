-- Decided by the inputs: the lengths, the clause list in its parts and whole, the room for it, and the encoder.
use Rattle.outcomes.specs.Decided.{Decided}
use Rattle.outcomes.proofs.Law.{same, decided}
use Rattle.totals
use Rattle.measure
use Rattle.both_ends
use Rattle.soft
use Rattle.parts
use Rattle.weights
use Rattle.whole
use Rattle.clauses_out
use Rattle.room
use Rattle.encoder

pub totals_top_of_decided : Decided totals.specs.contracts.top_of.ended totals.proofs.top_of.Reads.Post
totals_top_of_decided = decided λ _ _ _ _ p q. search same

pub totals_hard_tally_decided : Decided totals.specs.contracts.hard_tally.ended totals.proofs.hard_tally.Reads.Post
totals_hard_tally_decided = decided λ _ _ _ _ p q. search same

pub totals_next_pair_decided : Decided totals.specs.contracts.next_pair.ended totals.proofs.next_pair.Reads.Post
totals_next_pair_decided = decided λ _ _ _ _ p q. search same

pub totals_soft_tally_decided : Decided totals.specs.contracts.soft_tally.ended totals.proofs.soft_tally.Reads.Post
totals_soft_tally_decided = decided λ _ _ _ _ p q. search same

pub measure_measure_decided : Decided measure.specs.contracts.measure.ended measure.proofs.measure.Reads.Post
measure_measure_decided = decided λ _ _ _ _ p q. search same

pub measure_exact_lengths_decided : Decided measure.specs.contracts.exact_lengths.ended measure.proofs.exact_lengths.Reads.Post
measure_exact_lengths_decided = decided λ _ _ _ _ p q. search same

pub measure_scratch_over_decided : Decided measure.specs.contracts.scratch_over.ended measure.proofs.scratch_over.Reads.Post
measure_scratch_over_decided = decided λ _ _ _ _ p q. search same

pub measure_scratch_lengths_decided : Decided measure.specs.contracts.scratch_lengths.ended measure.proofs.scratch_lengths.Reads.Post
measure_scratch_lengths_decided = decided λ _ _ _ _ p q. search same

pub both_ends_put_both_decided : Decided both_ends.specs.contracts.put_both.ended both_ends.proofs.put_both.Reads.Post
both_ends_put_both_decided = decided λ _ _ _ _ p q. search same

pub both_ends_put_chosen_decided : Decided both_ends.specs.contracts.put_chosen.ended both_ends.proofs.put_chosen.Reads.Post
both_ends_put_chosen_decided = decided λ _ _ _ _ p q. search same

pub soft_put_pair_decided : Decided soft.specs.contracts.put_pair.ended soft.proofs.put_pair.Reads.Post
soft_put_pair_decided = decided λ _ _ _ _ p q. search same

pub parts_put_box_decided : Decided parts.specs.contracts.put_box.ended parts.proofs.put_box.Reads.Post
parts_put_box_decided = decided λ _ _ _ _ p q. search same

pub parts_put_hard_decided : Decided parts.specs.contracts.put_hard.ended parts.proofs.put_hard.Reads.Post
parts_put_hard_decided = decided λ _ _ _ _ p q. search same

pub weights_weigh_hard_decided : Decided weights.specs.contracts.weigh_hard.ended weights.proofs.weigh_hard.Reads.Post
weights_weigh_hard_decided = decided λ _ _ _ _ p q. search same

pub weights_weigh_soft_decided : Decided weights.specs.contracts.weigh_soft.ended weights.proofs.weigh_soft.Reads.Post
weights_weigh_soft_decided = decided λ _ _ _ _ p q. search same

pub parts_put_soft_decided : Decided parts.specs.contracts.put_soft.ended parts.proofs.put_soft.Reads.Post
parts_put_soft_decided = decided λ _ _ _ _ p q. search same

pub whole_put_all_decided : Decided whole.specs.contracts.put_all.ended whole.proofs.put_all.Reads.Post
whole_put_all_decided = decided λ _ _ _ _ p q. search same

pub whole_weigh_all_decided : Decided whole.specs.contracts.weigh_all.ended whole.proofs.weigh_all.Reads.Post
whole_weigh_all_decided = decided λ _ _ _ _ p q. search same

pub whole_tidy_decided : Decided whole.specs.contracts.tidy.ended whole.proofs.tidy.Reads.Post
whole_tidy_decided = decided λ _ _ _ _ p q. search same

pub clauses_out_write_all_decided : Decided clauses_out.specs.contracts.write_all.ended clauses_out.proofs.write_all.Reads.Post
clauses_out_write_all_decided = decided λ _ _ _ _ p q. search same

pub room_for_clauses_decided : Decided room.specs.contracts.for_clauses.ended room.proofs.for_clauses.Reads.Post
room_for_clauses_decided = decided λ _ _ _ _ p q. search same

pub room_for_text_decided : Decided room.specs.contracts.for_text.ended room.proofs.for_text.Reads.Post
room_for_text_decided = decided λ _ _ _ _ p q. search same

pub encoder_encode_decided : Decided encoder.specs.contracts.encode.ended encoder.proofs.encode.Reads.Post
encoder_encode_decided = decided λ _ _ _ _ p q. search same
