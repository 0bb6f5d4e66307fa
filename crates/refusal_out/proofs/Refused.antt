-- How long the line and its parts are, exactly and at most: what a program's buffer has to hold.
use mathlib.Core.Path.{◌≡◌, refl}
use Prim.Native.Nat.{ℕ, ◌+◌, ◌^◌, ◌≤◌, ◌<◌}
use native.Mathlib.Omega.{arith}
use lib.ListN.{length, length-append}
use Rattle.lists.specs.Decimal.{digits}
use Rattle.lists.proofs.Decimal.{length_digits}
use Rattle.refusal.specs.declared.Refusal.{Refusal}
use Rattle.refusal.specs.Refusals.{number_of, place_of}
use Rattle.refusal.proofs.Numbers.{small_number}
use Rattle.text_out.specs.Texts.{line_of}
use Rattle.text_out.proofs.Texts.{short_line}
use Rattle.refusal_out.specs.Refused.{place_key, refused_line}

pub length_refused : (f : Refusal) → length (refused_line f) ≡ 8 + (length (digits (number_of f)) + length (line_of place_key (place_of f)))
unfolding refused_line
length_refused f = simp length-append (omega arith)

-- the number, and the place with its key and the line feed
pub short_number : (f : Refusal) (n : ℕ) → n ≡ number_of f → length (digits n) ≤ 2
short_number f n e = length_digits 1 n (omega (arith, small_number f))

pub short_place : (p : ℕ) → p < 2 ^ 64 → length (line_of place_key p) ≤ 28
short_place p h = short_line place_key 19 p (omega arith)

pub short_refused : (f : Refusal) → place_of f < 2 ^ 64 → length (refused_line f) ≤ 38
short_refused f h = omega (arith, length_refused f, short_number f (number_of f) refl, short_place (place_of f) h)
