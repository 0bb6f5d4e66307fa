-- Each way that a list is judged for a table, and the answer with what the buffers hold after.
use mathlib.Core.Path.{◌≡◌}
use mathlib.Core.Logic.{◌≢◌}
use mathlib.Core.List.{List}
use mathlib.Core.Option.{none, some}
use Prim.Native.Nat.{ℕ, ◌≤◌, ◌<◌}
use lib.ListN.{length}
use lib.Seq.{sets}
use borrow.Author.Tests.{le-leb, lt-leb, eq-eqb, ne_eqb}
use Rattle.refusal.specs.declared.Refusal.{Refusal}
use Rattle.refusal.specs.declared.Refusal.TheVariants.{Length, Room}
use Rattle.std.specs.Prelude.{Err}
use Rattle.list_store.specs.Listed.{listed}
use Rattle.list_store.specs.Answers.{wanted, fault, list_given, Answered}

-- a list of entries l for the table of words ws

module _ (h d : ℕ) (ws l table list : List ℕ) where
  refused : {f : Refusal} → fault h d ws l (length table) (length list) ≡ some f → Answered (listed h d ws l) table list (Err f) table list
  refused e = record { answer = rw e; words = rw e; entries = rw e }

  done : {n m : ℕ} {table' list' : List ℕ} → fault h d ws l (length table) (length list) ≡ none → length ws ≡ n → length l ≡ m → table' ≡ sets table 0 ws
      → list' ≡ sets list 0 l → Answered (listed h d ws l) table list (list_given h d n m) table' list'
  done e p q a b = record { answer = rw (e, p, q); words = rw e a; entries = rw e b }

  module _ {n m k : ℕ} (p : length ws ≡ n) (q : length l ≡ m) (w : k ≡ wanted h d ws) where
    pub other_length : m ≢ k → Answered (listed h d ws l) table list (Err (Length k)) table list
    unfolding fault
    other_length z = refused (rw (q, ← w, ne_eqb m k z))

    module _ (z : m ≡ k) where
      pub list_short : length list < m → Answered (listed h d ws l) table list (Err (Room m)) table list
      unfolding fault
      list_short s = refused (rw (q, ← w, eq-eqb m k z, lt-leb m (length list) s))

      module _ (r : m ≤ length list) where
        pub table_short : length table < n → Answered (listed h d ws l) table list (Err (Room n)) table list
        unfolding fault
        table_short s = refused (rw (q, ← w, eq-eqb m k z, le-leb m (length list) r, p, lt-leb n (length table) s))

        pub both_fit : {table' list' : List ℕ} → n ≤ length table → table' ≡ sets table 0 ws → list' ≡ sets list 0 l
            → Answered (listed h d ws l) table list (list_given h d n m) table' list'
        unfolding fault
        both_fit s a b = done (rw (q, ← w, eq-eqb m k z, le-leb m (length list) r, p, le-leb n (length table) s)) p q a b
