-- Each array is as long as it was made; the law says so without counting.
use lib.ListN.{length-replicate}
use lib.IntN.{ℤ, pos}
use Prim.Native.Nat.{ℕ}
use mathlib.Core.Path.{sym}
use Rattle.calls.proofs.clauses.show_large.Goals as goal

pub slice_bounds-show_in-end : goal.slice_bounds-show_in-end
slice_bounds-show_in-end g c = sym (length-replicate {A = ℤ} 262144 (pos 0))

pub slice_bounds-show_in-end-2 : goal.slice_bounds-show_in-end-2
slice_bounds-show_in-end-2 g c = sym (length-replicate {A = ℕ} 81920 0)

pub slice_bounds-show_in-end-3 : goal.slice_bounds-show_in-end-3
slice_bounds-show_in-end-3 g c = sym (length-replicate {A = ℕ} 1400000 0)
