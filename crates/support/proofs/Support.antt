-- The text of an end's support clauses: of a value's support turn by turn, and of a value's clause by whether it has one.
use mathlib.Core.Path.{◌≡◌, ap, ◌∙◌}
use mathlib.Core.Bool.{true, false}
use mathlib.Core.List.{List, [], ◌∷◌, ◌++◌, map, map-append, append_assoc}
use Prim.Native.Nat.{ℕ, ◌+◌, ◌-◌, ◌^◌, ◌≤◌, ◌<◌}
use native.Mathlib.Omega.{arith}
use lib.ListN.{length, length-append}
use lib.IntN.{ℤ, pos}
use Rattle.lists.specs.Lists.{count, those}
use Rattle.lists.proofs.Truth.{test}
use Rattle.clause.specs.Clause.{plus, minus, coded, Clause, closed, entries_of}
use Rattle.clause.specs.Numbers.{value_from}
use Rattle.clause.specs.Ends.{End, supports, full, support_at, support_clauses}
use Rattle.puts.specs.Signed.{neg}
use Rattle.ends.proofs.Values.{flat_all}
use Rattle.lists.proofs.Runs.{count_turn, count_end, count_all}
use Rattle.ends.proofs.Ends.{clause_none, clause_one, full_yes, full_no}
use Rattle.ends.proofs.Texts.{entries_one, text_from}
use Rattle.clause.proofs.Lengths.{entries_of_none}
use Rattle.ends.specs.declared.Seen.{Seen}
use Rattle.ends.specs.Seen.{end_of}
use Rattle.support.specs.Tails.{supporter}

-- ---- one value's support

pub supporter_yes : (e : End) (j i : ℕ) → e.ok j i ≡ true → supporter e j i ≡ plus (value_from e.other i) ∷ []
unfolding supporter
supporter_yes e j i p = rw p

pub supporter_no : (e : End) (j i : ℕ) → e.ok j i ≡ false → supporter e j i ≡ []
unfolding supporter
supporter_no e j i p = rw p

-- the values i, i + 1, .. of the other box that support value j, as they are written
abbrev pub support_from : End → ℕ → ℕ → List ℤ
support_from e j i = map coded (map (λ k. plus (value_from e.other k)) (those (e.ok j) (count i (e.theirs + 1 - i))))

module _ (e : End) (j : ℕ) where
  pub support_all : support_from e j 1 ≡ map coded (supports e j)
  unfolding supports
  support_all = rw count_all

  pub support_turn : (i : ℕ) → i ≤ e.theirs → support_from e j i ≡ map coded (supporter e j i) ++ support_from e j (i + 1)
  unfolding supporter
  support_turn i h = rw (count_turn i e.theirs h) (test (e.ok j i) (λ p. rw p) (λ p. rw p))

  pub support_none : (i : ℕ) → e.theirs < i → support_from e j i ≡ []
  support_none i h = rw (count_end i e.theirs h)

-- ---- one value's clause

parts : (v : ℕ) (s tail : Clause) → closed (minus v ∷ (s ++ tail)) ≡ (neg v ∷ []) ++ (map coded s ++ (map coded tail ++ (pos 0 ∷ [])))
parts v s tail = ap (λ (l : List ℤ). neg v ∷ l) (rw (map-append coded s tail) (append_assoc (map coded s) (map coded tail) (pos 0 ∷ [])))

module _ (e : End) (tail : Clause) (j : ℕ) where
  pub value_full : full e j ≡ true → entries_of (support_at e tail j) ≡ []
  value_full p = rw (clause_none e tail j p) entries_of_none

  pub value_partly : full e j ≡ false
      → entries_of (support_at e tail j) ≡ (neg (value_from e.own j) ∷ []) ++ (map coded (supports e j) ++ (map coded tail ++ (pos 0 ∷ [])))
  value_partly p = rw (clause_one e tail j p) (entries_one _ ∙ parts (value_from e.own j) (supports e j) tail)

  pub value_long : full e j ≡ false → length (entries_of (support_at e tail j)) ≡ length (map coded (supports e j)) + length (map coded tail) + 2
  value_long p =
      rw (value_partly p, length-append (map coded (supports e j)), length-append (map coded tail)) (omega arith)

-- where as many values support it as the other box has, it has no text
pub full_text : (ws : List ℕ) (s : Seen) (tail : Clause) (j n : ℕ) → n ≡ length (supports (end_of ws s) j) → n ≡ s.theirs
    → entries_of (support_at (end_of ws s) tail j) ≡ []
full_text ws s tail j n p q = value_full (end_of ws s) tail j (full_yes (end_of ws s) j p q)

-- where not so many do, room for its clause is room for each part
pub value_room : (ws : List ℕ) (s : Seen) (tail : Clause) (j n at : ℕ) → n ≡ length (supports (end_of ws s) j) → (n ≡ s.theirs → ⊥)
    → at + length (entries_of (support_at (end_of ws s) tail j)) < 2 ^ 64
    → at + (length (map coded (supports (end_of ws s) j)) + length (map coded tail) + 2) < 2 ^ 64
value_room ws s tail j n at p d h = omega (arith, h, value_long (end_of ws s) tail j (full_no (end_of ws s) j p d))

-- ---- all values

pub support_text : (e : End) (tail : Clause) → text_from (support_at e tail) e.mine 1 ≡ entries_of (support_clauses e tail)
unfolding support_clauses
support_text e tail = ap entries_of (flat_all (support_at e tail) e.mine)
