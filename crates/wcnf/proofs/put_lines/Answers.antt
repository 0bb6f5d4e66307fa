-- An entry more, after the one before. The check finds the rest.
use Rattle.wcnf.proofs.Signed.{back}
use Rattle.wcnf.proofs.Lines.{lined_none, lined_turn}
use mir.Syntax.{w32}
use mir.Val.{SFits}
use lib.IntN.{pos}
use lib.ListN.{get_or}
use borrow.Author.Rules.{rules}
use Rattle.wcnf.proofs.put_lines.Goals as goal

pub loop-v-init : goal.loop-v-init
loop-v-init c = lined_none

pub loop-v-preserved : goal.loop-v-preserved
loop-v-preserved c =
    let x = get_or c.args.part.now c.loop-v.v-index (pos 0) in
    let f : SFits w32 x = search rules in
    let e = back x f in
    rw e (lined_turn c.loop-v.invariant c.loop-v-test.true c.ranges.weight.fits f (rw e at c.put_entry-at.ensures))
