-- What is read goes after what stands there, and is what the input has next.
use Rattle.std.proofs.Common.{◌≡◌, ℕ, ◌+◌, ◌-◌, ◌≤◌, List, ◌++◌, rules, length, take, drop, sym, ap, ◌∙◌, subst, le_refl, drop_at, length-take-le}
use Rattle.std.proofs.lemmas.Slice.{take-put_mid_below}
use Rattle.std.specs.Io.KnownBytes.{Consumes}
use Rattle.std.proofs.KnownBytes.{Consumes-trans}
use borrow.Rule.Slice.PartMut.{put_mid, post_of}
use lib.Seq.{take-add, take-append-le}
use Rattle.prints.proofs.read_full.Goals as goal

front_and_read : (a k n : ℕ) (xs ys : List ℕ) → a ≤ length xs → n ≤ length ys → take a xs ++ take n ys ≡ take (a + n) (put_mid a k xs ys)
front_and_read a k n xs ys within fits =
    let rest = post_of a k xs in
    let whole = put_mid a k xs ys in
    let back = ap (take n) (drop_at (take a xs) (ys ++ rest) a (length-take-le a xs within)) ∙ take-append-le n ys rest fits in
    sym (take-add a n whole ∙ ap (λ l. l ++ take n (drop a whole)) (take-put_mid_below a k xs ys a (le_refl a) within) ∙ ap (λ l. take a xs ++ l) back)

pub loop-done-preserved : goal.loop-done-preserved
loop-done-preserved g c =
    let at = c.loop-done.done in
    let read = c.in-Ok.ensures in
    let grown = front_and_read at (length c.loop-done.buf - at) c.in-Ok.n c.loop-done.buf c.read.new.buf c.loop-done.invariant.1 read.bound.0 in
    (search rules, search rules, subst (Consumes _ _) grown (Consumes-trans _ _ _ _ _ c.loop-done.invariant.2 read.bytes.0))
