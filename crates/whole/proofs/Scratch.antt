-- Whatever the pairs put into a scratch slice, tidying takes it out again.
use mathlib.Core.Path.{◌≡◌, refl, ap, ◌∙◌}
use mathlib.Core.List.{List, [], ◌∷◌}
use native.Mathlib.Omega.{arith}
use lib.ListN.{length}
use lib.IntN.{ℤ, pos}
use Rattle.table.specs.Table.{Table, Pair}
use Rattle.clause.specs.declared.Side.{Side}
use Rattle.clause.specs.declared.Side.TheVariants.{Direct, Support, First, Literals, Score}
use Rattle.clause.specs.Ends.{Which}
use Rattle.fills.specs.Zeros.{zeros}
use Rattle.parts.specs.Parts.{scratch_through}
use Rattle.parts.proofs.Scratch.{through_long}
use Rattle.whole.specs.Scratch.{scratch_left}

zeros_long : (a b : List ℤ) → length a ≡ length b → zeros a ≡ zeros b
zeros_long [] [] e = refl
zeros_long [] (y ∷ b) e = absurd (omega (arith, e))
zeros_long (x ∷ a) [] e = absurd (omega (arith, e))
zeros_long (x ∷ a) (y ∷ b) e = ap (λ (l : List ℤ). pos 0 ∷ l) (zeros_long a b (omega (arith, e)))

-- whatever the pairs put into a scratch slice, it is left as what was lent is
left_through : (s : Side) (w : Which) (t : Table) (ps : List Pair) (old : List ℤ) → scratch_left s (scratch_through s w t ps old) ≡ scratch_left s old
left_through Direct w t [] old = refl
left_through Direct w t (p ∷ ps) old = left_through Direct w t ps old
left_through Support w t [] old = refl
left_through Support w t (p ∷ ps) old = left_through Support w t ps old
left_through First w t [] old = refl
left_through First w t (p ∷ ps) old = left_through First w t ps old
left_through Literals w t ps old = zeros_long (scratch_through Literals w t ps old) old (through_long Literals w t ps old)
left_through Score w t ps old = zeros_long (scratch_through Score w t ps old) old (through_long Score w t ps old)

-- what the pairs put in and tidying takes out again
pub left : (s : Side) (w : Which) (t : Table) (old mid : List ℤ) {new : List ℤ} → mid ≡ scratch_through s w t t.pairs old
    → new ≡ scratch_left s mid → new ≡ scratch_left s old
left s w t old mid e f = f ∙ ap (scratch_left s) e ∙ left_through s w t t.pairs old
