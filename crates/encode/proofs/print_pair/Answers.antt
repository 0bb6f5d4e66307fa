-- No list of an end is longer than its scratch slice.
use Rattle.wcnf_parts.proofs.Scratch.{pair_scratch_short}
use Rattle.clause.specs.Ends.{one, two}
use native.Mathlib.Omega.{arith}
use Rattle.encode.proofs.print_pair.Goals as goal

pub put_pair-end-requires : goal.put_pair-end-requires
put_pair-end-requires g c =
    let ws = c.args.words.now in
    let first = pair_scratch_short ws c.requires.0 one c.args.side c.args.pair c.requires.1 in
    let second = pair_scratch_short ws c.requires.0 two c.args.side c.args.pair c.requires.1 in (
      c.requires.0,
      c.requires.1,
      c.requires.2,
      c.requires.3,
      omega (arith, first, c.requires.4),
      omega (arith, second, c.requires.5),
      c.requires.6,
      omega (arith, c.requires.7),
    )
