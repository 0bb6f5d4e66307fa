-- Where a sheet is answered as read: which it was, and that its words lie in the table that was lent.
use mathlib.Core.Path.{◌≡◌, refl, ap}
use mathlib.Core.Bool.{Bool, true, false}
use mathlib.Core.List.{List}
use Prim.Native.Nat.{ℕ, ◌≤◌}
use native.Mathlib.Omega.{arith}
use lib.ListN.{length}
use lib.Dec.{leb}
use borrow.Author.Tests.{leb-true}
use Rattle.sheet_in.specs.declared.ReadSheet.{ReadSheet}
use Rattle.sheet_in.specs.Parsed.{Parsed, sheet, faulty, sheet_given, fits, read_of}

-- what was given, taken apart
pub same_given : {h h' d d' n n' : ℕ} → sheet_given h d n ≡ sheet_given h' d' n' → (h ≡ h') × (d ≡ d') × (n ≡ n')
same_given {h} {h'} {d} {d'} {n} {n'} e =
    let same : ◌≡◌ {A = ReadSheet} (record { hard = h; side = d; words = n }) (record { hard = h'; side = d'; words = n' }) = cc in
    (ap (λ (r : ReadSheet). r.hard) same, ap (λ (r : ReadSheet). r.side) same, ap (λ (r : ReadSheet). r.words) same)

pub record ReadWas (p : Parsed) (long h d n : ℕ) : Type 0 where
  pub words : List ℕ
  pub is : p ≡ sheet h d words
  pub many : length words ≡ n
  pub room : length words ≤ long

pub read_was : (p : Parsed) (long : ℕ) {h d n : ℕ} → read_of p long ≡ sheet_given h d n → ReadWas p long h d n
read_was (faulty l) long e = absurd (let o : ◌≡◌ {A = ℕ} 0 1 = cc in omega arith)
read_was (sheet h' d' ws) long {h} {d} {n} e = by (leb (length ws) long) refl e
  where
    by : (b : Bool) → leb (length ws) long ≡ b → fits b h' d' (length ws) ≡ sheet_given h d n → ReadWas (sheet h' d' ws) long h d n
    by false q e = absurd (let o : ◌≡◌ {A = ℕ} 0 1 = cc in omega arith)
    by true q e =
        let (x, y, z) = same_given e in
        record { words = ws; is = rw (x, y); many = z; room = leb-true (length ws) long q }

pub read_most : (p : Parsed) (long : ℕ) {h d n : ℕ} → read_of p long ≡ sheet_given h d n → n ≤ long
read_most p long e = let R = read_was p long e in omega (arith, R.many, R.room)
