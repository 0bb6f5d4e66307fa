-- What is written clause by clause, and what a loop over a run of numbers still owes.
use mathlib.Core.Path.{◌≡◌, refl, ap, ◌∙◌}
use mathlib.Core.List.{List, [], ◌∷◌, ◌++◌, map, flat_map}
use Prim.Native.Nat.{ℕ, suc, ◌+◌, ◌-◌, ◌≤◌, ◌<◌}
use native.Mathlib.Numerals.{add-one}
use native.Mathlib.Omega.{arith}
use lib.ListN.{length, length-append}
use lib.IntN.{ℤ, pos}
use Rattle.lists.specs.Lists.{count}
use Rattle.lists.specs.Stores.{Wrote, Owes}
use Rattle.lists.proofs.Stores.{owes_room, owes_part, owes_none}
use Rattle.lists.proofs.Runs.{run_turn, run_end}
use Rattle.clause.specs.Clause.{plus, Clause, closed, entries_of}
use Rattle.clause.proofs.Lengths.{entries_of_append}
use Rattle.clause.specs.Hard.{one_of, standard_box}
use Rattle.standard.specs.Writers.{apart}

-- the numbers after j, up to m itself
pub run_start : (m j : ℕ) → count (suc j) (m - j) ≡ count (j + 1) (m + 1 - (j + 1))
run_start m j = let e : m + 1 - (j + 1) ≡ m - j = omega arith in rw (e, add-one)

-- ---- general: the texts of a loop over numbers

-- a literal a turn
module _ (x : ℕ → ℕ) (n j : ℕ) where
  pub values_turn : j < n → closed (map (λ i. plus (x i)) (count j (n - j))) ≡ (pos (x j) ∷ []) ++ closed (map (λ i. plus (x i)) (count (j + 1) (n - (j + 1))))
  values_turn h = rw (run_turn n j h)

  pub values_end : n ≤ j → closed (map (λ i. plus (x i)) (count j (n - j))) ≡ (pos 0 ∷ []) ++ []
  values_end h = rw (run_end n j h)

-- a clause a turn
module _ (f : ℕ → Clause) (n j : ℕ) where
  pub text_turn : j < n → entries_of (map f (count j (n - j))) ≡ closed (f j) ++ entries_of (map f (count (j + 1) (n - (j + 1))))
  unfolding entries_of flat_map
  text_turn h = rw (run_turn n j h)

  text_end : n ≤ j → entries_of (map f (count j (n - j))) ≡ []
  unfolding entries_of flat_map
  text_end h = rw (run_end n j h)

  -- a turn has room, leaves the numbers after j owed, and after the last one all is written
  module _ {old all out : List ℤ} {start at : ℕ} (o : Owes old start all out at (entries_of (map f (count j (n - j))))) where
    pub text_room : {k : ℕ} → j < n → start + length all < k → at + length (closed (f j)) < k
    text_room h room = owes_room (closed (f j)) _ o (text_turn h) room

    pub text_part : {new : List ℤ} {r : ℕ} → j < n → Wrote out at (closed (f j)) r new
        → Owes old start all new r (entries_of (map f (count (j + 1) (n - (j + 1)))))
    text_part h w = owes_part o (text_turn h) w

    pub text_none : n ≤ j → Wrote old start all at out
    text_none h = owes_none o (text_end h)

-- several clauses a turn
module _ (g : ℕ → List Clause) (n j : ℕ) where
  texts_turn : j < n → entries_of (flat_map g (count j (n - j))) ≡ entries_of (g j) ++ entries_of (flat_map g (count (j + 1) (n - (j + 1))))
  unfolding flat_map
  texts_turn h = rw (run_turn n j h) (entries_of_append (g j) _)

  texts_end : n ≤ j → entries_of (flat_map g (count j (n - j))) ≡ []
  unfolding entries_of flat_map
  texts_end h = rw (run_end n j h)

  module _ {old all out : List ℤ} {start at : ℕ} (o : Owes old start all out at (entries_of (flat_map g (count j (n - j))))) where
    pub texts_room : {k : ℕ} → j < n → start + length all < k → at + length (entries_of (g j)) < k
    texts_room h room = owes_room (entries_of (g j)) _ o (texts_turn h) room

    pub texts_part : {new : List ℤ} {r : ℕ} → j < n → Wrote out at (entries_of (g j)) r new
        → Owes old start all new r (entries_of (flat_map g (count (j + 1) (n - (j + 1)))))
    texts_part h w = owes_part o (texts_turn h) w

    pub texts_none : n ≤ j → Wrote old start all at out
    texts_none h = owes_none o (texts_end h)

-- ---- a standard box, piece by piece

module _ (x : ℕ → ℕ) (m : ℕ) where
  pub standard_text : entries_of (standard_box x m) ≡ closed (one_of x m) ++ entries_of (apart x m)
  unfolding standard_box entries_of flat_map
  standard_text = refl

  pub standard_size : length (entries_of (standard_box x m)) ≡ length (closed (one_of x m)) + length (entries_of (apart x m))
  standard_size = ap length standard_text ∙ length-append (closed (one_of x m)) (entries_of (apart x m))
