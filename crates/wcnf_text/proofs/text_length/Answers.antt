-- The scratch of this pass holds every list, and the cursor past the text is its length.
use Rattle.wcnf_parts.proofs.Scratch.{scratch_short}
use Rattle.clause.specs.Ends.{one, two}
use native.Mathlib.Omega.{arith}
use Rattle.wcnf_text.proofs.text_length.Goals as goal

pub put_text-requires : goal.put_text-requires
put_text-requires c =
    let ws = c.args.words.now in
    (c.requires.0, c.requires.1, scratch_short ws c.requires.0.table one c.args.e.side, scratch_short ws c.requires.0.table two c.args.e.side)

pub returns : goal.returns
returns c = omega (arith, c.put_text.ensures.0.next)
