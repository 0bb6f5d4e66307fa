-- The clauses after j are still owed. The check finds the rest.
use Rattle.regular.proofs.Pieces.{chain_turn}
use Rattle.lists.proofs.Stores.{owes_part, owes_room}
use Rattle.clause.specs.Clause.{plus, minus, closed}
use mathlib.Core.List.{[], ◌∷◌}
use Prim.Native.Nat.{◌+◌, ◌-◌}
use native.Mathlib.Omega.{arith}
use Rattle.regular.proofs.put_chain.Goals as goal

pub put_two-at-requires : goal.put_two-at-requires
put_two-at-requires c =
    let s = c.args.s in
    let j = c.loop-j.j in
    let clause = closed (minus (s + (j - 1)) ∷ plus (s + (j - 2)) ∷ []) in
    (omega arith, omega arith, owes_room clause _ c.loop-j.invariant (chain_turn s (c.args.m + 1) j c.loop-j-test.true) c.requires.3)

pub loop-j-preserved : goal.loop-j-preserved
loop-j-preserved c =
    let a = c.args in
    owes_part c.loop-j.invariant (chain_turn a.s (a.m + 1) c.loop-j.j c.loop-j-test.true) c.put_two-at.ensures
