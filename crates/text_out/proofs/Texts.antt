-- How long a line is, and a row's characters one by one.
use mathlib.Core.Path.{◌≡◌, refl, ap}
use mathlib.Core.List.{List, ◌∷◌, ◌++◌, append_assoc}
use Prim.Native.Nat.{ℕ, zero, suc, ◌+◌, ◌/◌, ◌^◌, ◌≤◌, ◌<◌}
use native.Mathlib.Omega.{arith}
use lib.ListN.{length, length-append}
use Rattle.lists.specs.Decimal.{digits}
use Rattle.lists.proofs.Decimal.{length_digits}
use Rattle.text_out.specs.Texts.{line_of, bits_of, row_of}

pub length_line : (key : List ℕ) (n : ℕ) → length (line_of key n) ≡ length key + length (digits n) + 1
unfolding line_of
length_line key n = simp length-append (omega arith)

-- what a line takes at most, of a number with suc k digits
pub short_line : (key : List ℕ) (k n : ℕ) → n < 10 ^ suc k → length (line_of key n) ≤ length key + suc k + 1
short_line key k n h = omega (arith, length_line key n, length_digits k n h)

pub length_bits : (m mask : ℕ) → length (bits_of m mask) ≡ m
unfolding bits_of
length_bits zero mask = refl
length_bits (suc m) mask = ap suc (length_bits m (mask / 2))

pub length_row : (key : List ℕ) (m mask : ℕ) → length (row_of key m mask) ≡ length key + m + 1
unfolding row_of
length_row key m mask = simp (length-append, length_bits) (omega arith)

-- ---- what follows a line's number or a row's characters

pub line_split : (key : List ℕ) (n : ℕ) (rest : List ℕ) → key ++ (digits n ++ (10 ∷ rest)) ≡ line_of key n ++ rest
unfolding line_of
line_split key n rest = simp append_assoc

pub row_split : (key : List ℕ) (m mask : ℕ) (rest : List ℕ) → key ++ (bits_of m mask ++ (10 ∷ rest)) ≡ row_of key m mask ++ rest
unfolding row_of
row_split key m mask rest = simp append_assoc
