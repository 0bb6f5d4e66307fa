-- The words, and three numbers.
use Rattle.lists.proofs.Stores.{wrote_append}
use Rattle.wcnf_header.proofs.Header.{length_header, header_short}
use Rattle.wcnf.specs.Wcnf.{header_text}
use native.Mathlib.Omega.{arith}
use Rattle.wcnf_header.proofs.put_header.Goals as goal

pub put_all-one-requires : goal.put_all-one-requires
put_all-one-requires c =
    omega (
      arith,
      length_header c.args.variables c.args.clauses c.args.top,
      header_short _ _ _ c.ranges.variables.fits c.ranges.clauses.fits c.ranges.top.fits,
      c.requires,
    )

pub put_ended-two-requires : goal.put_ended-two-requires
put_ended-two-requires c =
    omega (
      arith,
      length_header c.args.variables c.args.clauses c.args.top,
      header_short _ _ _ c.ranges.variables.fits c.ranges.clauses.fits c.ranges.top.fits,
      c.requires,
      c.put_all-one.ensures.next,
    )

pub put_ended-three-requires : goal.put_ended-three-requires
put_ended-three-requires c =
    omega (
      arith,
      length_header c.args.variables c.args.clauses c.args.top,
      header_short _ _ _ c.ranges.variables.fits c.ranges.clauses.fits c.ranges.top.fits,
      c.requires,
      c.put_all-one.ensures.next,
      c.put_ended-two.ensures.next,
    )

pub put_ended-requires : goal.put_ended-requires
put_ended-requires c =
    omega (
      arith,
      length_header c.args.variables c.args.clauses c.args.top,
      header_short _ _ _ c.ranges.variables.fits c.ranges.clauses.fits c.ranges.top.fits,
      c.requires,
      c.put_all-one.ensures.next,
      c.put_ended-two.ensures.next,
      c.put_ended-three.ensures.next,
    )

pub returns : goal.returns
unfolding header_text
returns c =
    let w = wrote_append c.put_all-one.ensures
    (wrote_append c.put_ended-two.ensures (wrote_append c.put_ended-three.ensures c.put_ended.ensures)) in
    (w, omega (arith, w.next, header_short _ _ _ c.ranges.variables.fits c.ranges.clauses.fits c.ranges.top.fits))
