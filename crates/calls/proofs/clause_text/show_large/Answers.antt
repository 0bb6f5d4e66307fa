-- Each array is as long as it was made; the law says so without counting.
use lib.ListN.{length-replicate}
use Prim.Native.Nat.{ℕ}
use mathlib.Core.Path.{sym}
use Rattle.calls.proofs.clause_text.show_large.Goals as goal

pub slice_bounds-show_in-end : goal.slice_bounds-show_in-end
slice_bounds-show_in-end g c = sym (length-replicate {A = ℕ} 1800000 0)
