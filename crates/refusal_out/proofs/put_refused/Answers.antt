-- The refusal's number between the two keys, and its place up to the line feed.
use Rattle.lists.proofs.Stores.{wrote_append, wrote_as}
use Rattle.lists.specs.Decimal.{digits}
use Rattle.text_out.specs.Texts.{line_of}
use Rattle.refusal_out.proofs.Refused.{short_number, short_place}
use Rattle.refusal_out.specs.Refused.{place_key, refused_line}
use mathlib.Core.Path.{ap}
use native.Mathlib.Omega.{arith}
use Rattle.refusal_out.proofs.put_refused.Goals as goal

pub put_number-two-requires : goal.put_number-two-requires
put_number-two-requires c = omega (arith, c.put_all-one.ensures.next, short_number c.args.f _ c.number-number.ensures)

pub put_line-requires : goal.put_line-requires
put_line-requires c =
    omega (
      arith,
      c.put_all-one.ensures.next,
      c.put_number-two.ensures.next,
      short_number c.args.f _ c.number-number.ensures,
      short_place c.place-place.result (omega (arith, c.place-place.type_inv)),
    )

pub returns : goal.returns
unfolding refused_line
returns c =
    wrote_append c.put_all-one.ensures
    (wrote_append (wrote_as (ap digits c.number-number.ensures) c.put_number-two.ensures)
    (wrote_as (ap (line_of place_key) c.place-place.ensures) c.put_line.ensures))
