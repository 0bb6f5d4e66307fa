-- The header, the boxes' lines and the pairs' lines after each other.
use Rattle.wcnf_text.proofs.Texts.{text_put}
use Rattle.table.specs.Words.{table_of}
use lib.ListN.{length, replicate, length-replicate}
use lib.IntN.{ℤ, pos}
use mathlib.Core.Path.{◌≡◌}
use native.Mathlib.Omega.{arith}
use Rattle.wcnf_text.proofs.put_text.Goals as goal

-- the lent array of clauses
room : length (replicate {A = ℤ} 1024 (pos 0)) ≡ 1024
room = length-replicate {A = ℤ} 1024 (pos 0)

pub put_boxes-pairs-requires : goal.put_boxes-pairs-requires
put_boxes-pairs-requires c = (
  c.requires.0.table,
  c.word-n.ensures,
  omega (arith, room),
  omega (arith, c.put_header-boxes.ensures.1),
)

pub put_pairs-requires : goal.put_pairs-requires
put_pairs-requires c = (
  c.requires.2,
  c.requires.3,
  omega (arith, room, c.put_boxes-pairs.ensures.1),
  omega (arith, c.put_header-boxes.ensures.1, c.put_boxes-pairs.ensures.2),
)

pub returns : goal.returns
returns c =
    let put = c.put_pairs.ensures in (
      text_put c.args.e (table_of c.args.words.now) c.requires.1 c.put_header-boxes.ensures.0 c.put_boxes-pairs.ensures.0 put.0,
      put.1,
      put.2,
    )
