-- How long the header is, exactly and at most.
use mathlib.Core.Path.{◌≡◌}
use Prim.Native.Nat.{ℕ, ◌+◌, ◌^◌, ◌≤◌, ◌<◌}
use native.Mathlib.Omega.{arith}
use lib.ListN.{length, length-append}
use Rattle.lists.specs.Decimal.{digits}
use Rattle.wcnf.specs.Wcnf.{ended, header_text}
use Rattle.wcnf.proofs.Lines.{digits_few}

pub length_ended : (n b : ℕ) → length (ended n b) ≡ length (digits n) + 1
unfolding ended
length_ended n b = simp length-append (omega arith)

pub length_header : (v c t : ℕ) → length (header_text v c t) ≡ 7 + (length (ended v 32) + (length (ended c 32) + length (ended t 10)))
unfolding header_text
length_header v c t = simp length-append (omega arith)

pub header_short : (v c t : ℕ) → v < 2 ^ 64 → c < 2 ^ 64 → t < 2 ^ 64 → length (header_text v c t) ≤ 128
header_short v c t a b d =
    omega (arith, length_header v c t, length_ended v 32, length_ended c 32, length_ended t 10, digits_few v a, digits_few c b, digits_few t d)
