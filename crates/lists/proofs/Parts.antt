-- Parts of a list: what stands from an index on.
use mathlib.Core.Path.{◌≡◌, sym, ap, ◌∙◌}
use mathlib.Core.List.{List, ◌++◌}
use Prim.Native.Nat.{ℕ, ◌+◌, ◌<◌}
use native.Mathlib.Omega.{arith}
use lib.ListN.{length, get_or, take, drop, length-append, length-drop, take-append-drop, get_or-append}
use lib.Seq.{drop-drop, drop-append_seam, get_or-drop}

module _ {A : Type 0} where
  -- from `at` on stand n entries, and then what stands after these
  pub drop_split : (l : List A) (at n : ℕ) → drop at l ≡ take n (drop at l) ++ drop (at + n) l
  drop_split l at n = sym (take-append-drop n (drop at l)) ∙ ap (λ (m : List A). take n (drop at l) ++ m) (drop-drop n at l)

  -- from `at` on stands p, and then q
  module _ (l : List A) (at : ℕ) (p q : List A) (e : drop at l ≡ p ++ q) where
    pub stands_at : (i : ℕ) (d : A) → i < length p → (at + i < length l) × (get_or l (at + i) d ≡ get_or p i d)
    stands_at i d h = (
      omega (arith, length-drop at l, ap length e, length-append p q),
      sym (get_or-drop at l i d) ∙ ap (λ (m : List A). get_or m i d) e ∙ get_or-append p q d i h,
    )

    pub stands_after : drop (at + length p) l ≡ q
    stands_after = sym (drop-drop (length p) at l) ∙ ap (drop (length p)) e ∙ drop-append_seam p q
