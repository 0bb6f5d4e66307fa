-- The two sizes are the pair's own, so its masks are judged by the second box's domain.
use Rattle.table.specs.Words.{size_at, pair_next}
use lib.ListN.{get_or}
use Prim.Native.Nat.{◌+◌}
use mathlib.Core.Path.{◌≡◌, sym, ap, ◌∙◌}
use native.Mathlib.Omega.{arith}
use Rattle.table_check.proofs.rows.Goals as goal

pub masks-requires : goal.masks-requires
masks-requires c =
    let second_size : c.size-2.result ≡ size_at c.args.words.now (get_or c.args.words.now (c.args.at + 1) 0) = c.size-2.ensures ∙ ap (size_at c.args.words.now) c.word-second.ensures in
    let first_size : c.size.result ≡ size_at c.args.words.now (get_or c.args.words.now c.args.at 0) = c.size.ensures ∙ ap (size_at c.args.words.now) c.word-first.ensures in (
      omega (arith, second_size, c.requires.2.values.1),
      omega
          (arith, c.wide-count.ensures, first_size, c.requires.0, c.requires.1.values.1, c.well_formed),
    )

pub returns : goal.returns
unfolding pair_next
returns c =
    let second_size : c.size-2.result ≡ size_at c.args.words.now (get_or c.args.words.now (c.args.at + 1) 0) = c.size-2.ensures ∙ ap (size_at c.args.words.now) c.word-second.ensures in
    let first_size : c.size.result ≡ size_at c.args.words.now (get_or c.args.words.now c.args.at 0) = c.size.ensures ∙ ap (size_at c.args.words.now) c.word-first.ensures in
    rw (sym second_size, sym first_size, sym c.wide-count.ensures) c.masks.ensures
