-- A signed number by its sign and its digits, and as the machine passes it on.
use mathlib.Core.Path.{◌≡◌, refl, sym, ap, ◌∙◌}
use mathlib.Core.Logic.{◌≢◌}
use mathlib.Core.Bool.{true, false}
use mathlib.Core.List.{[], ◌∷◌, ◌++◌}
use Prim.Native.Nat.{ℕ, zero, suc, ◌+◌}
use native.Mathlib.Omega.{arith}
use lib.ListN.{length, length-append}
use lib.IntN.{ℤ, pos, negsuc, nat_abs}
use lib.Signed.{lt_z}
use borrow.Author.Tests.{ltb-true}
use mir.Syntax.{w32}
use mir.Val.{SFits, to_z, of_z}
use mir.ValLaws.{to_z-of_z}
use Rattle.lists.specs.Decimal.{digits, signed}
use Rattle.wcnf.specs.Entries.{sign, opening, ending}

-- ---- as it is passed on

pub back : (z : ℤ) → SFits w32 z → to_z w32 (of_z w32 z) ≡ z
back z f = to_z-of_z w32 z f

-- ---- its sign

minus : (z : ℤ) → lt_z z (pos 0) ≡ true → sign z ≡ 45 ∷ []
minus (pos n) h = absurd (omega (arith, ltb-true n 0 h))
minus (negsuc n) h = refl

plain : (z : ℤ) → lt_z z (pos 0) ≡ false → sign z ≡ []
plain (pos n) h = refl
plain (negsuc n) h = cc

pub sign_below : (z : ℤ) → SFits w32 z → lt_z (to_z w32 (of_z w32 z)) (pos 0) ≡ true → sign z ≡ 45 ∷ []
sign_below z f h = minus z (rw (back z f) at h)

pub sign_above : (z : ℤ) → SFits w32 z → lt_z (to_z w32 (of_z w32 z)) (pos 0) ≡ false → sign z ≡ []
sign_above z f h = plain z (rw (back z f) at h)

-- ---- 0 and no other closes a clause

module _ (z : ℤ) (f : SFits w32 z) where
  pub zero_is : of_z w32 z ≡ 0 → z ≡ pos 0
  zero_is h = sym (back z f) ∙ ap (to_z w32) h

  pub zero_not : (of_z w32 z ≡ 0 → ⊥) → z ≢ pos 0
  zero_not h e = h (ap (of_z w32) e)

pub opens : (w : ℕ) (z : ℤ) → z ≡ pos 0 → opening w z ≡ digits w
opens w z e = rw e

pub goes_on : (w : ℕ) (z : ℤ) → z ≢ pos 0 → opening w z ≡ []
goes_on w (pos zero) h = absurd (h refl)
goes_on w (pos (suc n)) h = refl
goes_on w (negsuc n) h = refl

pub closes : (z : ℤ) → z ≡ pos 0 → ending z ≡ 48 ∷ 10 ∷ []
closes z e = rw e

pub stays : (z : ℤ) → z ≢ pos 0 → ending z ≡ signed z
stays (pos zero) h = absurd (h refl)
stays (pos (suc n)) h = refl
stays (negsuc n) h = refl

-- ---- the text

pub signed_parts : (z : ℤ) → signed z ≡ sign z ++ digits (nat_abs z)
unfolding signed
signed_parts (pos n) = refl
signed_parts (negsuc n) = refl

pub signed_long : (z : ℤ) → length (signed z) ≡ length (sign z) + length (digits (nat_abs z))
signed_long z = ap length (signed_parts z) ∙ length-append (sign z) (digits (nat_abs z))
