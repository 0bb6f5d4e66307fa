-- The value lines, and the cost line after them.
use Rattle.lists.proofs.Stores.{wrote_append}
use Rattle.answer_out.specs.Answer.{answer_text}
use Rattle.answer_out.proofs.put_answer.Goals as goal

pub returns : goal.returns
unfolding answer_text
returns c = wrote_append c.put_values-last.ensures.0 c.put_cost.ensures
