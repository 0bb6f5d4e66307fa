-- Decided by the inputs: a solver's list to a plan, and a plan to a list.
use Rattle.outcomes.specs.Decided.{Decided}
use Rattle.outcomes.proofs.Law.{same, decided}
use Rattle.list_boxes
use Rattle.list_judge
use Rattle.decoder
use Rattle.maker

pub list_boxes_box_ok_decided : Decided list_boxes.specs.contracts.box_ok.ended list_boxes.proofs.box_ok.Reads.Post
list_boxes_box_ok_decided = decided λ _ _ _ _ p q. search same

pub list_boxes_value_of_decided : Decided list_boxes.specs.contracts.value_of.ended list_boxes.proofs.value_of.Reads.Post
list_boxes_value_of_decided = decided λ _ _ _ _ p q. search same

pub list_judge_variables_decided : Decided list_judge.specs.contracts.variables.ended list_judge.proofs.variables.Reads.Post
list_judge_variables_decided = decided λ _ _ _ _ p q. search same

pub list_judge_judge_decided : Decided list_judge.specs.contracts.judge.ended list_judge.proofs.judge.Reads.Post
list_judge_judge_decided = decided λ _ _ _ _ p q. search same

pub decoder_decode_decided : Decided decoder.specs.contracts.decode.ended decoder.proofs.decode.Reads.Post
decoder_decode_decided = decided λ _ _ _ _ p q. search same

pub maker_make_list_decided : Decided maker.specs.contracts.make_list.ended maker.proofs.make_list.Reads.Post
maker_make_list_decided = decided λ _ _ _ _ p q. search same
