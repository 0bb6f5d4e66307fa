-- Being decided can fail: a contract that bounds the answer, or leaves a lent buffer open, permits two outcomes.
use mathlib.Core.Path.{◌≡◌, refl, ap}
use mathlib.Core.List.{List, [], ◌∷◌}
use Prim.Native.Nat.{ℕ, ◌≤◌, ◌+◌}
use native.Mathlib.Omega.{arith}
use lib.ListN.{length}
use lib.IntN.{ℤ, pos}
use denote.MutBor.{MutBor}
use Rattle.outcomes.specs.Decided.{Decided}
use Rattle.lists.specs.contracts as lists
use Rattle.puts.specs.contracts as puts

-- as `wide`, with a bound for the equation
pub bound_undecided : Decided lists.wide.ended (λ κs a r s. r ≤ a.0) → ⊥
bound_undecided D =
    let two = D.equal tt (1, tt) (0, (tt, tt)) (1, (tt, tt)) (omega arith) (omega arith) in
    let z : ◌≡◌ {A = ℕ} 0 1 = ap (λ (o : ℕ × (Unit {0} × Unit {0})). o.0) two in
    omega arith

-- as `put_close`, with no equation for the buffer
pub buffer_undecided : Decided puts.put_close.ended (λ κs a r s. r ≡ a.1.0 + 1) → ⊥
buffer_undecided D =
    let lent : MutBor (List ℤ) = record { ref_ptr = (0, 0); ghost_name = 0; now = [] } in
    let two = D.equal ([], tt) (lent, (0, tt)) (1, ([], (tt, tt))) (1, (pos 0 ∷ [], (tt, tt))) refl refl in
    let z : ◌≡◌ {A = ℕ} 0 1 = ap (λ (o : ℕ × (List ℤ × (Unit {0} × Unit {0}))). length o.1.0) two in
    omega arith
