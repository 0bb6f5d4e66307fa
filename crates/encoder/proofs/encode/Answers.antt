-- What is asked for is judged, and what is left is written.
use Rattle.asked.proofs.Answers.{asked_ready}
use Rattle.clause.specs.Encodings.{picked_of}
use mathlib.Core.Path.{sym}
use Rattle.encoder.proofs.encode.Goals as goal

pub returns : goal.returns
returns c =
    let R = asked_ready (picked_of c.args.hard c.args.side) c.args.words.now (sym c.in_ok-e.ensures) in
    rw (R.known, R.counted.table) c.encode_checked.ensures
