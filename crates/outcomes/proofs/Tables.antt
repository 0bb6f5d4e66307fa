-- Decided by the inputs: the words, the table, the refusals and the cost of a plan.
use Rattle.outcomes.specs.Decided.{Decided}
use Rattle.outcomes.proofs.Law.{same, decided}
use Rattle.lists
use Rattle.refusal
use Rattle.table
use Rattle.table_check
use Rattle.reader
use Rattle.masks
use Rattle.plan

pub lists_wide_decided : Decided lists.specs.contracts.wide.ended lists.proofs.wide.Reads.Post
lists_wide_decided = decided λ _ _ _ _ p q. search same

pub lists_word_decided : Decided lists.specs.contracts.word.ended lists.proofs.word.Reads.Post
lists_word_decided = decided λ _ _ _ _ p q. search same

pub refusal_number_decided : Decided refusal.specs.contracts.number.ended refusal.proofs.number.Reads.Post
refusal_number_decided = decided λ _ _ _ _ p q. search same

pub refusal_place_decided : Decided refusal.specs.contracts.place.ended refusal.proofs.place.Reads.Post
refusal_place_decided = decided λ _ _ _ _ p q. search same

pub table_size_decided : Decided table.specs.contracts.size.ended table.proofs.size.Reads.Post
table_size_decided = decided λ _ _ _ _ p q. search same

pub table_check_check_decided : Decided table_check.specs.contracts.check.ended table_check.proofs.check.Reads.Post
table_check_check_decided = decided λ _ _ _ _ p q. search same

pub reader_reader_at_decided : Decided reader.specs.contracts.reader_at.ended reader.proofs.reader_at.Reads.Post
reader_reader_at_decided = decided λ _ _ _ _ p q. (λ i. record { words = same p.0 q.0 i; at = same p.1 q.1 i }, tt)

pub reader_step_decided : Decided reader.specs.contracts.step.ended reader.proofs.step.Reads.Post
reader_step_decided = decided λ _ _ _ _ p q. search same

pub reader_pair_at_decided : Decided reader.specs.contracts.pair_at.ended reader.proofs.pair_at.Reads.Post
reader_pair_at_decided = decided λ _ _ _ _ p q. search same

pub masks_allows_decided : Decided masks.specs.contracts.allows.ended masks.proofs.allows.Reads.Post
masks_allows_decided = decided λ _ _ _ _ p q. search same

pub plan_judge_decided : Decided plan.specs.contracts.judge.ended plan.proofs.judge.Reads.Post
plan_judge_decided = decided λ _ _ _ _ p q. search same

pub plan_total_decided : Decided plan.specs.contracts.total.ended plan.proofs.total.Reads.Post
plan_total_decided = decided λ _ _ _ _ p q. search same

pub plan_cost_decided : Decided plan.specs.contracts.cost.ended plan.proofs.cost.Reads.Post
plan_cost_decided = decided λ _ _ _ _ p q. search same
