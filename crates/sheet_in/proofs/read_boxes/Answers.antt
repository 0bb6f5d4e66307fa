-- The sizes are read to their end, and stand in the array that the rest is handed.
use Rattle.sheet_in.proofs.Answers.{size_bad, sizes_read, sizes_rest}
use Rattle.sheet_parts.proofs.Steps.{paced_filed, paced_bad}
use Rattle.sheet_parts.proofs.Pairs.{paced_values}
use Rattle.sheet_parts.specs.Reading.{values_at}
use mathlib.Core.Path.{refl}
use native.Mathlib.Omega.{arith}
use Rattle.sheet_in.proofs.read_boxes.Goals as goal

pub overflow_add-result : goal.overflow_add-result
overflow_add-result c =
    let s = c.args.text.now in
    let last = paced_bad (values_at s c.args.n c.args.at) 4 (paced_values s c.args.n c.args.at c.requires.1) (omega (arith, c.requires.2)) c.in-Err.ensures in
    omega arith

pub read_rest-requires : goal.read_rest-requires
read_rest-requires c =
    let s = c.args.text.now in
    let f = c.in-Ok.ensures in
    let R = sizes_read s c.args.hard c.args.side c.args.n c.args.at c.requires.0 refl f in
    let far = paced_filed (values_at s c.args.n c.args.at) 5 (paced_values s c.args.n c.args.at c.requires.1) (omega (arith, c.requires.2)) f in
    (R.sized, far.1, omega (arith, R.long, R.word))

pub returns-in-Err : goal.returns-in-Err
returns-in-Err c =
    let a = c.args in
    size_bad a.text.now a.hard a.side a.n a.at a.table.now c.in-Err.ensures

pub returns-in-Ok : goal.returns-in-Ok
returns-in-Ok c =
    let a = c.args in
    let R = sizes_read a.text.now a.hard a.side a.n a.at c.requires.0 refl c.in-Ok.ensures in
    rw (sizes_rest a.text.now a.hard a.side a.n a.at R) c.read_rest.ensures
