-- How long an entry's text is and can be, and the text of entries one by one.
use mathlib.Core.Path.{◌≡◌, ap}
use mathlib.Core.List.{List, ◌∷◌, ◌++◌}
use Prim.Native.Nat.{ℕ, zero, suc, ◌+◌, ◌*◌, ◌^◌, ◌≤◌, ◌<◌}
use native.Mathlib.Numerals.{add-one}
use native.Mathlib.Omega.{arith}
use lib.ListN.{length, get_or, drop, length-append, drop_of_length-le}
use lib.Seq.{drop-cons}
use lib.IntN.{ℤ, pos, negsuc}
use mir.Syntax.{w32}
use mir.Val.{SFits}
use Rattle.lists.specs.Decimal.{digits, signed}
use Rattle.lists.proofs.Decimal.{length_digits}
use Rattle.lists.specs.Stores.{Wrote, Owes}
use Rattle.lists.proofs.Stores.{owes_all, owes_part, owes_none}
use Rattle.wcnf.specs.Entries.{opening, ending, entry_text, entries_from, entries_text}

pub length_entry : (w : ℕ) (past v : ℤ) → length (entry_text w past v) ≡ length (opening w past) + (1 + length (ending v))
length_entry w past v = simp length-append (omega arith)

-- ---- what it does not exceed

-- a number of 64 bits has at most 20 digits
pub digits_few : (n : ℕ) → n < 2 ^ 64 → length (digits n) ≤ 20
digits_few n h = length_digits 19 n (omega arith)

opening_short : (w : ℕ) → w < 2 ^ 64 → (past : ℤ) → length (opening w past) ≤ 20
opening_short w h (pos zero) = digits_few w h
opening_short w h (pos (suc n)) = omega arith
opening_short w h (negsuc n) = omega arith

ending_short : (v : ℤ) → SFits w32 v → length (ending v) ≤ 21
unfolding signed
ending_short (pos zero) f = omega arith
ending_short (pos (suc n)) f = let d = digits_few (suc n) (omega (arith, f.sfits)) in omega arith
ending_short (negsuc n) f = let d = digits_few (suc n) (omega (arith, f.sfits)) in omega arith

pub entry_short : (w : ℕ) (past v : ℤ) → w < 2 ^ 64 → SFits w32 v → length (entry_text w past v) ≤ 64
entry_short w past v h f = omega (arith, length_entry w past v, opening_short w h past, ending_short v f)

-- ---- the loop over the entries

-- the first i entries stand in the slice from `from` on, the last of them `past`, and the others are owed
pub record Lined (w : ℕ) (old : List ℕ) (from : ℕ) (part : List ℤ) (out : List ℕ) (at : ℕ) (past : ℤ) (i : ℕ) : Type 0 where
  pub some : i ≤ length part
  pub most : at ≤ from + 64 * i
  pub owed : Owes old from (entries_text w part) out at (entries_from w past (drop i part))

pub lined_none : {w : ℕ} {old : List ℕ} {from : ℕ} {part : List ℤ} → Lined w old from part old from (pos 0) 0
unfolding entries_text
lined_none = record { some = omega arith; most = omega arith; owed = owes_all }

entries_turn : (w : ℕ) (past : ℤ) (vs : List ℤ) (i : ℕ) → i < length vs
    → entries_from w past (drop i vs) ≡ entry_text w past (get_or vs i (pos 0)) ++ entries_from w (get_or vs i (pos 0)) (drop (i + 1) vs)
entries_turn w past vs i h =
    let e : drop i vs ≡ get_or vs i (pos 0) ∷ drop (i + 1) vs = rw add-one (drop-cons vs i (pos 0) h) in
    ap (entries_from w past) e

pub lined_turn : {w : ℕ} {old out new : List ℕ} {from at i r : ℕ} {part : List ℤ} {past : ℤ}
    → Lined w old from part out at past i → i < length part → w < 2 ^ 64 → SFits w32 (get_or part i (pos 0))
    → Wrote out at (entry_text w past (get_or part i (pos 0))) r new → Lined w old from part new r (get_or part i (pos 0)) (i + 1)
lined_turn {w} {i = i} {part = part} {past = past} l h f s o =
    record {
      some = omega arith;
      most = omega (arith, entry_short w past (get_or part i (pos 0)) f s, l.most, o.next);
      owed = owes_part l.owed (entries_turn w past part i h) o;
    }

pub lined_all : {w : ℕ} {old out : List ℕ} {from at i : ℕ} {part : List ℤ} {past : ℤ} → Lined w old from part out at past i → length part ≤ i
    → Wrote old from (entries_text w part) at out
lined_all {w} {i = i} {part = part} {past = past} l h = owes_none l.owed (ap (entries_from w past) (drop_of_length-le part {i = i} h))
