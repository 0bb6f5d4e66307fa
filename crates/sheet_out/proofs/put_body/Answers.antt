-- Counts, sizes and pairs are put in the body's order. The check finds the rest.
use Rattle.sheet_out.proofs.Parts.{begun, body_long}
use Rattle.lists.proofs.Stores.{wrote_append}
use native.Mathlib.Omega.{arith}
use Rattle.sheet_out.proofs.put_body.Goals as goal

pub overflow_add-first : goal.overflow_add-first
overflow_add-first c = omega (arith, (begun c.args.table.words.now c.args.table.counts c.args.table.counted).few_boxes)

pub overflow_cast-n : goal.overflow_cast-n
overflow_cast-n c = omega (arith, (begun c.args.table.words.now c.args.table.counts c.args.table.counted).few_boxes)

pub put_boxes-values-requires : goal.put_boxes-values-requires
put_boxes-values-requires c =
    let ws = c.args.table.words.now in
    omega (arith, c.requires, body_long ws c.args.table.counts (begun ws c.args.table.counts c.args.table.counted))

pub slice_bounds-put_values-end : goal.slice_bounds-put_values-end
slice_bounds-put_values-end c = omega (arith, (begun c.args.table.words.now c.args.table.counts c.args.table.counted).inside)

pub returns : goal.returns
returns c =
    rw (begun c.args.table.words.now c.args.table.counts c.args.table.counted).text
    (wrote_append c.put_boxes-values.ensures
    (wrote_append c.put_values-count.ensures (wrote_append c.put_count-pairs.ensures c.put_pairs.ensures)))
