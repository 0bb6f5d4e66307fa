-- Decided by the inputs: the clauses of a box and of a pair, and what they are made of.
use mathlib.Core.List.{List}
use lib.IntN.{ℤ}
use denote.RattleType.{RattleType}
use denote.Param.Laws.{Laws, IsCopy}
use mir.Syntax.{Dict}
use Rattle.std.specs.declared.clone.Clone.{Ghosts}
use Rattle.outcomes.specs.Decided.{Decided, DecidedBy}
use Rattle.outcomes.proofs.Law.{same, decided}
use Rattle.puts
use Rattle.fills
use Rattle.clause
use Rattle.asked
use Rattle.numbers
use Rattle.standard
use Rattle.regular
use Rattle.hard
use Rattle.ends
use Rattle.support
use Rattle.direct
use Rattle.choice
use Rattle.sight
use Rattle.pairs

pub puts_put_plus_decided : Decided puts.specs.contracts.put_plus.ended puts.proofs.put_plus.Reads.Post
puts_put_plus_decided = decided λ _ _ _ _ p q. search same

pub puts_put_minus_decided : Decided puts.specs.contracts.put_minus.ended puts.proofs.put_minus.Reads.Post
puts_put_minus_decided = decided λ _ _ _ _ p q. search same

pub puts_put_close_decided : Decided puts.specs.contracts.put_close.ended puts.proofs.put_close.Reads.Post
puts_put_close_decided = decided λ _ _ _ _ p q. search same

pub fills_clear_decided : Decided fills.specs.contracts.clear.ended fills.proofs.clear.Reads.Post
fills_clear_decided = decided λ _ _ _ _ p q. search same

-- of entries of any type that is copied
module _ (T : RattleType) (L : Laws T) (C : IsCopy T) (G : Ghosts T.Denot) (d : Dict) where
  pub fills_put_run_decided : Decided (fills.specs.contracts.put_run.ended T G d) (fills.proofs.put_run.Reads.Post T L C G d)
  fills_put_run_decided = decided λ _ _ _ _ p q. search same

pub clause_pick_decided : Decided clause.specs.contracts.pick.ended clause.proofs.pick.Reads.Post
clause_pick_decided = decided λ _ _ _ _ p q. search same

pub clause_HardTryFromU32_try_from_decided : Decided clause.specs.contracts.HardTryFromU32.try_from.ended clause.proofs.HardTryFromU32.try_from.Reads.Post
clause_HardTryFromU32_try_from_decided = decided λ _ _ _ _ p q. search same

pub clause_SideTryFromU32_try_from_decided : Decided clause.specs.contracts.SideTryFromU32.try_from.ended clause.proofs.SideTryFromU32.try_from.Reads.Post
clause_SideTryFromU32_try_from_decided = decided λ _ _ _ _ p q. search same

pub asked_ask_decided : Decided asked.specs.contracts.ask.ended asked.proofs.ask.Reads.Post
asked_ask_decided = decided λ _ _ _ _ p q. search same

pub numbers_value_base_decided : Decided numbers.specs.contracts.value_base.ended numbers.proofs.value_base.Reads.Post
numbers_value_base_decided = decided λ _ _ _ _ p q. search same

pub numbers_step_base_decided : Decided numbers.specs.contracts.step_base.ended numbers.proofs.step_base.Reads.Post
numbers_step_base_decided = decided λ _ _ _ _ p q. search same

pub numbers_switch_base_decided : Decided numbers.specs.contracts.switch_base.ended numbers.proofs.switch_base.Reads.Post
numbers_switch_base_decided = decided λ _ _ _ _ p q. search same

pub numbers_switch_count_decided : Decided numbers.specs.contracts.switch_count.ended numbers.proofs.switch_count.Reads.Post
numbers_switch_count_decided = decided λ _ _ _ _ p q. search same

pub standard_put_literal_decided : Decided standard.specs.contracts.put_literal.ended standard.proofs.put_literal.Reads.Post
standard_put_literal_decided = decided λ _ _ _ _ p q. search same

pub standard_put_two_decided : Decided standard.specs.contracts.put_two.ended standard.proofs.put_two.Reads.Post
standard_put_two_decided = decided λ _ _ _ _ p q. search same

pub standard_put_one_of_decided : Decided standard.specs.contracts.put_one_of.ended standard.proofs.put_one_of.Reads.Post
standard_put_one_of_decided = decided λ _ _ _ _ p q. search same

pub standard_put_standard_decided : Decided standard.specs.contracts.put_standard.ended standard.proofs.put_standard.Reads.Post
standard_put_standard_decided = decided λ _ _ _ _ p q. search same

pub regular_put_regular_decided : Decided regular.specs.contracts.put_regular.ended regular.proofs.put_regular.Reads.Post
regular_put_regular_decided = decided λ _ _ _ _ p q. search same

pub hard_box_tally_decided : Decided hard.specs.contracts.box_tally.ended hard.proofs.box_tally.Reads.Post
hard_box_tally_decided = decided λ _ _ _ _ p q. search same

pub hard_put_box_decided : Decided hard.specs.contracts.put_box.ended hard.proofs.put_box.Reads.Post
hard_put_box_decided = decided λ _ _ _ _ p q. search same

pub ends_goes_decided : Decided ends.specs.contracts.goes.ended ends.proofs.goes.Reads.Post
ends_goes_decided = decided λ _ _ _ _ p q. search same

pub ends_supporting_decided : Decided ends.specs.contracts.supporting.ended ends.proofs.supporting.Reads.Post
ends_supporting_decided = decided λ _ _ _ _ p q. search same

pub support_put_support_decided : Decided support.specs.contracts.put_support.ended support.proofs.put_support.Reads.Post
support_put_support_decided = decided λ _ _ _ _ p q. search same

pub direct_direct_count_decided : Decided direct.specs.contracts.direct_count.ended direct.proofs.direct_count.Reads.Post
direct_direct_count_decided = decided λ _ _ _ _ p q. search same

pub direct_put_direct_decided : Decided direct.specs.contracts.put_direct.ended direct.proofs.put_direct.Reads.Post
direct_put_direct_decided = decided λ _ _ _ _ p q. search same

pub choice_tally_decided : Decided choice.specs.contracts.tally.ended choice.proofs.tally.Reads.Post
choice_tally_decided = decided λ _ _ _ _ p q. search same

pub choice_prefers_second_decided : Decided choice.specs.contracts.prefers_second.ended choice.proofs.prefers_second.Reads.Post
choice_prefers_second_decided = decided λ _ _ _ _ p q. search same

-- the list that is handed on, by its entries: where it lies is the caller's
pub choice_better_decided : DecidedBy choice.specs.contracts.better.ended (λ κs. List ℤ) (λ κs r. r.now) choice.proofs.better.Reads.Post
choice_better_decided = decided λ _ _ _ _ p q. search same

pub sight_from_first_decided : Decided sight.specs.contracts.from_first.ended sight.proofs.from_first.Reads.Post
sight_from_first_decided = decided λ _ _ _ _ p q. search same

pub sight_turned_decided : Decided sight.specs.contracts.turned.ended sight.proofs.turned.Reads.Post
sight_turned_decided = decided λ _ _ _ _ p q. search same

pub pairs_candidate_length_decided : Decided pairs.specs.contracts.candidate_length.ended pairs.proofs.candidate_length.Reads.Post
pairs_candidate_length_decided = decided λ _ _ _ _ p q. search same

pub pairs_pair_tally_decided : Decided pairs.specs.contracts.pair_tally.ended pairs.proofs.pair_tally.Reads.Post
pairs_pair_tally_decided = decided λ _ _ _ _ p q. search same
