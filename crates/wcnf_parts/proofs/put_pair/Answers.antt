-- The clauses as entries, and the lines from there.
use Rattle.wcnf_parts.proofs.Passing.{pair_short, fits, passed, few, printed}
use Rattle.wcnf.proofs.Named.{soft_named}
use Rattle.table.specs.Words.{pair_at, table_of}
use Rattle.clause.specs.Clause.{plus, minus}
use Rattle.clause.specs.Soft.{soft}
use Rattle.reader.specs.declared.PairHead.{PairHead}
use mathlib.Core.List.{[], ◌∷◌}
use mathlib.Core.Path.{ap, ◌∙◌}
use Rattle.wcnf_parts.proofs.put_pair.Goals as goal

pub put_pair-long-requires : goal.put_pair-long-requires
put_pair-long-requires c =
    let ws = c.args.words.now in
    let v = c.args.switch in
    let cs = soft c.args.side (table_of ws) (plus v ∷ []) (minus v ∷ []) (pair_at ws c.args.pair) in
    let short = pair_short c.args.side ws c.args.pair v c.requires.0 c.requires.1 in
    (c.requires.0, c.requires.1, c.requires.3, c.requires.4, c.requires.5, fits cs short)

pub pair_at-head-requires : goal.pair_at-head-requires
pair_at-head-requires c = c.requires.1

pub put_clauses-requires : goal.put_clauses-requires
put_clauses-requires c =
    let ws = c.args.words.now in
    let v = c.args.switch in
    let cs = soft c.args.side (table_of ws) (plus v ∷ []) (minus v ∷ []) (pair_at ws c.args.pair) in
    let short = pair_short c.args.side ws c.args.pair v c.requires.0 c.requires.1 in
    passed cs short c.put_pair-long.ensures.0 c.requires.6 c.args.at c.requires.7

pub returns : goal.returns
returns c =
    let ws = c.args.words.now in
    let v = c.args.switch in
    let p = pair_at ws c.args.pair in
    let cs = soft c.args.side (table_of ws) (plus v ∷ []) (minus v ∷ []) p in
    let short = pair_short c.args.side ws c.args.pair v c.requires.0 c.requires.1 in
    let named = soft_named c.args.side (table_of ws) (plus v ∷ []) (minus v ∷ []) p (c.requires.2, tt) (c.requires.2, tt) in
    let e = c.wide.ensures ∙ ap (λ (g : PairHead). g.weight) c.pair_at-head.ensures in
    let put = rw e at c.put_clauses.ensures in (
      printed cs short c.put_pair-long.ensures.0 c.requires.6 p.weight named put.0,
      c.put_pair-long.ensures.1,
      c.put_pair-long.ensures.2,
      c.put_pair-long.ensures.0.list,
      few cs short c.put_pair-long.ensures.0 c.requires.6 c.args.at put.1,
    )
