-- What a weight put on clauses does: the falsified ones weigh it each, and they are hard exactly if it is 0.
use mathlib.Core.Path.{◌≡◌, sym, ◌∙◌}
use Prim.Native.Nat.{ℕ, ◌*◌}
use native.Mathlib.Nat.{zero-mul}
use native.Mathlib.Omega.{arith}
use mathlib.Core.Bool.{not, ◌||◌}
use mathlib.Core.List.{List, [], ◌∷◌}
use lib.Dec.{eqb}
use Rattle.lists.proofs.Truth.{test}
use Rattle.lists.proofs.Lists.{all_map, all_or}
use Rattle.clause.specs.Clause.{Clause, weigh, Reading, clause_true, all_true, lost, falsified, hard_true}

pub falsified_weigh : (ν : Reading) (w : ℕ) (cs : List Clause) → falsified ν (weigh w cs) ≡ lost ν cs * w
falsified_weigh ν w [] = sym (zero-mul w)
falsified_weigh ν w (d ∷ cs) =
    test (clause_true ν d) (λ p. rw p (omega (arith, falsified_weigh ν w cs))) (λ p. rw p (omega (arith, falsified_weigh ν w cs)))

pub hard_weigh : (ν : Reading) (w : ℕ) (cs : List Clause) → hard_true ν (weigh w cs) ≡ (not (eqb w 0) || all_true ν cs)
hard_weigh ν w cs =
    all_map (λ u. not (eqb u.weight 0) || clause_true ν u.lits) (λ d. record { weight = w; lits = d }) cs ∙ all_or (not (eqb w 0)) (clause_true ν) cs
