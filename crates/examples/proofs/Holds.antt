-- The table of examples holds: each of them is computed.
use mathlib.Core.Path.{refl}
use mathlib.Core.List.{flat_map}
use Rattle.lists.specs.Bits.{in_mask}
use Rattle.lists.specs.Firsts.{first_of}
use Rattle.lists.specs.Lists.{before}
use Rattle.table.specs.Table.{allowed}
use Rattle.table.specs.Words.{pair_next, pairs_end, pair_at, pairs_at, table_of, range_fault, mask_fault, partners_fault, pair_fault, body_fault, first_fault_lem, judged}
use Rattle.plan.specs.Plan.{cost}
use Rattle.clause.specs.Choice.{literals_from, points, score_from, by_literals, by_score}
use Rattle.clause.specs.Clause.{entries_of, entries, weights, literals_in}
use Rattle.clause.specs.Encodings.{picked_of}
use Rattle.clause.specs.Ends.{end, direct_at, direct_row, direct_clauses, supports, full, support_at, support_clauses}
use Rattle.clause.specs.Hard.{standard_box, chain_at, lowest, between, highest, regular_box, box_with, box_clauses}
use Rattle.clause.specs.Lengths.{top}
use Rattle.clause.specs.List.{hard_part, pair_clauses, soft_from, soft_part, clauses}
use Rattle.clause.specs.Numbers.{values, thresholds, switches, value_base_lem, step_base_lem, c, variables}
use Rattle.clause.specs.Soft.{soft_with, soft}
use Rattle.list_judge.specs.Faults.{entry_fault, box_fault, list_fault}
use Rattle.list_boxes.specs.Lists.{box_ok_lem, held}
use Rattle.decoder.specs.Answers.{decode_fault}
use Rattle.decoder.specs.Lists.{plan_of}
use Rattle.lists.specs.Lists.{Each}
use Rattle.examples.specs.Table.{Holds, table}

pub examples_hold : Each Holds table
unfolding in_mask first_of before allowed pair_next pairs_end pair_at pairs_at table_of range_fault mask_fault partners_fault pair_fault body_fault first_fault_lem
    judged cost literals_from points score_from by_literals by_score entries_of entries weights literals_in picked_of end direct_at direct_row direct_clauses
    supports full support_at support_clauses standard_box chain_at lowest between highest regular_box box_with box_clauses top hard_part pair_clauses soft_from
    soft_part clauses values thresholds switches value_base_lem step_base_lem c variables soft_with soft entry_fault box_fault list_fault decode_fault box_ok_lem held plan_of
    flat_map
examples_hold =
    ((refl, refl), (refl, (refl, (refl, (refl, (refl, ((refl, refl), ((refl, refl), ((refl, refl), ((refl, refl), ((refl, refl), ((refl, refl), ((refl, refl), (refl, ((refl, refl), ((refl, refl), tt))))))))))))))))
