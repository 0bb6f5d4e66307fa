-- What is answered and left, for a sheet whose length is known.
use Rattle.std.specs.Prelude.{Result, Ok, Err}
use mathlib.Core.Path.{◌≡◌, refl}
use mathlib.Core.List.{List}
use Prim.Native.Nat.{ℕ, ◌+◌, ◌≤◌, ◌<◌}
use native.Mathlib.Omega.{arith}
use lib.ListN.{length}
use lib.Seq.{sets}
use borrow.Author.Tests.{le-leb, lt-leb}
use Rattle.refusal.specs.declared.Refusal.{Refusal}
use Rattle.refusal.specs.declared.Refusal.TheVariants.{Room}
use Rattle.sheet_out.specs.Written.{Sheet, text, written_of, text_left}

-- what the entry point ensures of its answer and of the lent text
abbrev pub Answered : Sheet → List ℕ → Result ℕ Refusal → List ℕ → Type 0
Answered s old r new = (r ≡ written_of s (length old)) × (new ≡ text_left s old)

module _ (s old : List ℕ) (n : ℕ) (e : n ≡ 0 + length s) where
  pub too_short : length old < n → Answered (text s) old (Err (Room n)) old
  too_short h =
      let q : length s ≡ n = omega arith in
      rw (q, lt-leb n (length old) h) (refl, refl)

  pub long_enough : {new : List ℕ} → n ≤ length old → new ≡ sets old 0 s → Answered (text s) old (Ok n) new
  long_enough h p =
      let q : length s ≡ n = omega arith in
      rw (q, le-leb n (length old) h) (refl, p)
