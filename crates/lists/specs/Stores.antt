-- What a run of stores into a lent slice leaves. `sets l i vs` is l with vs from index i on, as far as l reaches.
use Rattle.std.specs.Prelude.{ℕ, ◌+◌, ◌≡◌, List, length}
use Rattle.std.proofs.lemmas.List.Edits.{sets}

module _ {A : Type 0} where
  -- a function that was lent `old` and the cursor `at` has stored vs from there, as far as the slice reaches: it is then `new`, and r is the cursor past vs
  pub record Wrote (old : List A) (at : ℕ) (vs : List A) (r : ℕ) (new : List A) : Type 0 where
    pub next : r ≡ at + length vs
    pub list : new ≡ sets old at vs

  -- of `all`, which is to stand in `old` from `start` on, vs is still owed: the slice is `out` by now, and the cursor `at`
  pub record Owes (old : List A) (start : ℕ) (all : List A) (out : List A) (at : ℕ) (vs : List A) : Type 0 where
    pub same : sets out at vs ≡ sets old start all
    pub ends : at + length vs ≡ start + length all
    pub long : length out ≡ length old
