-- A loop that puts a text for each item of a list.
use mathlib.Core.Path.{◌≡◌}
use mathlib.Core.List.{List, ◌++◌, flat_map}
use Prim.Native.Nat.{ℕ, ◌+◌, ◌≤◌, ◌<◌}
use native.Mathlib.Numerals.{add-one}
use native.Mathlib.Omega.{arith}
use lib.ListN.{length, get_or, drop, drop_of_length-le}
use lib.Seq.{drop-cons}
use Rattle.lists.specs.Stores.{Wrote, Owes}
use Rattle.lists.proofs.Stores.{owes_all, owes_part, owes_none, owes_room}

module _ {A : Type 0} where
  -- the texts of the first i items stand in the slice from `from` on, and the others are owed
  pub record Listed (g : A → List ℕ) (old : List ℕ) (from : ℕ) (items : List A) (out : List ℕ) (at i : ℕ) : Type 0 where
    pub some : i ≤ length items
    pub owed : Owes old from (flat_map g items) out at (flat_map g (drop i items))

  pub listed_none : {g : A → List ℕ} {old : List ℕ} {from : ℕ} {items : List A} → Listed g old from items old from 0
  listed_none = record { some = omega arith; owed = owes_all }

  split : (g : A → List ℕ) (items : List A) (i : ℕ) (d : A) → i < length items
      → flat_map g (drop i items) ≡ g (get_or items i d) ++ flat_map g (drop (i + 1) items)
  unfolding flat_map
  split g items i d h = rw (drop-cons items i d h, add-one)

  -- where all texts have room, the next one has
  pub listed_room : {g : A → List ℕ} {old out : List ℕ} {from at i n : ℕ} {items : List A} (d : A)
      → Listed g old from items out at i → i < length items → from + length (flat_map g items) < n → at + length (g (get_or items i d)) < n
  listed_room {g = g} {i = i} {items = items} d l h r =
      owes_room (g (get_or items i d)) (flat_map g (drop (i + 1) items)) l.owed (split g items i d h) r

  pub listed_turn : {g : A → List ℕ} {old out new : List ℕ} {from at i r : ℕ} {items : List A} (d : A)
      → Listed g old from items out at i → i < length items → Wrote out at (g (get_or items i d)) r new → Listed g old from items new r (i + 1)
  listed_turn {g = g} {i = i} {items = items} d l h w = record { some = omega arith; owed = owes_part l.owed (split g items i d h) w }

  pub listed_all : {g : A → List ℕ} {old out : List ℕ} {from at i : ℕ} {items : List A}
      → Listed g old from items out at i → length items ≤ i → Wrote old from (flat_map g items) at out
  unfolding flat_map
  listed_all {i = i} {items = items} l h = owes_none l.owed (rw (drop_of_length-le items {i = i} h))
