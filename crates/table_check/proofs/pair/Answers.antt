-- The two boxes and the weight met no fault, so the words of the boxes name two that stand.
use Rattle.table.proofs.Words.{box_stands, partners_none, range_none}
use Rattle.refusal.proofs.Results.{result_ok}
use lib.ListN.{length}
use Prim.Native.Nat.{◌+◌, ◌<◌}
use mathlib.Core.Path.{sym}
use Rattle.table_check.proofs.pair.Goals as goal

pub rows-requires : goal.rows-requires
rows-requires c =
    let boxes = result_ok _ _ (sym c.in_ok-weight.ensures) in
    let both = partners_none _ _ _ boxes.0 in
    let weight : c.args.at + 2 < length c.args.words.now = rw boxes.1 (range_none _ _ _ _ _ (result_ok _ _ (sym c.in_ok-ranged.ensures)).0).inside in
    (weight, box_stands _ _ c.requires.1 (rw c.requires.0 at both.first.range), box_stands _ _ c.requires.1 (rw c.requires.0 at both.second.range))
