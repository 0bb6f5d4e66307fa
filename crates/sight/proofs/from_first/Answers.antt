-- The boxes read are the pair's. The check finds the rest.
use Rattle.sight.proofs.Sight.{head_first, head_second, stands_in}
use Rattle.sight.proofs.from_first.Goals as goal

pub value_base-requires : goal.value_base-requires
value_base-requires c = (c.requires.0, stands_in (head_first _ _ _ c.pair_at-pair.ensures c.requires.1))

pub size-requires : goal.size-requires
size-requires c = head_first _ _ _ c.pair_at-pair.ensures c.requires.1

pub value_base-requires-2 : goal.value_base-requires-2
value_base-requires-2 c = (c.requires.0, stands_in (head_second _ _ _ c.pair_at-pair.ensures c.requires.1))

pub size-requires-2 : goal.size-requires-2
size-requires-2 c = head_second _ _ _ c.pair_at-pair.ensures c.requires.1
