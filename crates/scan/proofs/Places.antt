-- The laws of texts that stand at a place: one after another, and taken apart again; and comparing byte by byte.
use Prim.Native.Nat.{ℕ, ◌+◌, ◌-◌, ◌≤◌, ◌<◌}
use native.Mathlib.Omega.{arith}
use mathlib.Core.Bool.{Bool, true, ◌&&◌}
use mathlib.Core.Path.{◌≡◌, refl, sym, ap, ap₂, ◌∙◌}
use mathlib.Core.List.{List, [], ◌∷◌, ◌++◌, append_assoc}
use lib.ListN.{length, take, length-append, drop, length-drop}
use lib.Seq.{drop-drop, drop-append_seam}
use lib.Dec.{eqb}
use borrow.Author.Tests.{eq-eqb, ne_eqb, eqb-true}
use Rattle.lists.proofs.Truth.{and_left, and_right, same}
use Rattle.std.specs.Prelude.{nat_eq, min}
use Rattle.std.specs.List.{starts_with}
use Rattle.std.proofs.lemmas.List.{drop_min}
use Rattle.std.proofs.lemmas.Slice.{between_to_end}
use Rattle.scan.specs.Stands.{Stands, begins}

-- past a text that s has at i stands what follows it
pub past : (s : List ℕ) (i : ℕ) (t rest : List ℕ) → drop i s ≡ t ++ rest → drop (i + length t) s ≡ rest
past s i t rest e = sym (drop-drop (length t) i s) ∙ ap (drop (length t)) e ∙ drop-append_seam t rest

-- a text that s has at i, and what follows: Stands says the same
pub stands_of : (s : List ℕ) (i : ℕ) (t rest : List ℕ) → drop i s ≡ t ++ rest → Stands s i t (i + length t)
stands_of s i t rest e = record {
  next = refl;
  there = e ∙ ap (λ (l : List ℕ). t ++ l) (sym (past s i t rest e));
}

-- a text after a text is read as one
pub stands_append : {s : List ℕ} {i j k : ℕ} {a b : List ℕ} → Stands s i a j → Stands s j b k → Stands s i (a ++ b) k
stands_append {s} {i} {j} {k} {a} {b} p q = record {
  next = q.next ∙ omega (arith, p.next, length-append a b);
  there = p.there ∙ ap (λ (l : List ℕ). a ++ l) q.there ∙ sym (append_assoc a b (drop k s));
}

pub and_both : (a b : Bool) → (a && b) ≡ true → (a ≡ true) × (b ≡ true)
and_both a b e = (and_left a b e, and_right a b e)

pub begins_append : (t l : List ℕ) → begins t (t ++ l) ≡ true
unfolding begins
begins_append [] l = refl
begins_append (x ∷ t) l = rw (eq-eqb x x refl) (begins_append t l)

pub begins_split : (t l : List ℕ) → begins t l ≡ true → l ≡ t ++ drop (length t) l
unfolding begins
begins_split [] l e = refl
begins_split (x ∷ t) [] e = absurd (let o : ◌≡◌ {A = ℕ} 0 1 = cc in omega arith)
begins_split (x ∷ t) (y ∷ l) e =
    let w = and_both (eqb y x) (begins t l) e in
    let h : y ≡ x = eqb-true y x w.0 in
    rw h (ap (λ (r : List ℕ). x ∷ r) (begins_split t l w.1))

-- the library's test says the same
begins_is : (t l : List ℕ) → starts_with nat_eq l t ≡ begins t l
unfolding begins
begins_is [] l = refl
begins_is (x ∷ t) [] = refl
begins_is (x ∷ t) (y ∷ l) = ap₂ ◌&&◌ (turned x y) (begins_is t l)
  where
    turned : (x y : ℕ) → eqb x y ≡ eqb y x
    turned x y = same x y (λ e. eq-eqb x y e ∙ sym (eq-eqb y x (sym e))) (λ n. ne_eqb x y n ∙ sym (ne_eqb y x (λ e. n (sym e))))

-- the rest of s from i on, which is nothing past the end
pub starts_begins : (t s : List ℕ) (i : ℕ) {m : ℕ} → m ≡ min i (length s) → starts_with nat_eq (take (length s - m) (drop m s)) t ≡ begins t (drop i s)
starts_begins t s i {m} e = rw (between_to_end s m (length s) (omega arith), e, drop_min i s) (begins_is t (drop i s))

-- what begins with t is as long
pub begins_long : (t s : List ℕ) (i : ℕ) → begins t (drop i s) ≡ true → length t ≤ length s - i
begins_long t s i e =
    omega (arith, ap length (begins_split t (drop i s) e), length-append t (drop (length t) (drop i s)), length-drop i s)

-- a text in two parts is read as two
pub stands_split : (a b : List ℕ) {s : List ℕ} {i k : ℕ} → Stands s i (a ++ b) k → Stands s i a (i + length a) × Stands s (i + length a) b k
stands_split a b {s} {i} {k} r =
    let e : drop i s ≡ a ++ (b ++ drop k s) = r.there ∙ append_assoc a b (drop k s) in
    (stands_of s i a (b ++ drop k s) e, record { next = omega (arith, r.next, length-append a b); there = past s i a (b ++ drop k s) e })

-- a text of some bytes moves the place, and not past the end
pub stands_moves : {s t : List ℕ} {i k : ℕ} → Stands s i t k → 0 < length t → (i < k) × (k ≤ length s)
stands_moves {s} {t} {i} {k} r h =
    let e : length s - i ≡ length t + (length s - k) = sym (length-drop i s) ∙ ap length r.there ∙ length-append t (drop k s) ∙ ap
    (λ (n : ℕ). length t + n) (length-drop k s) in
    (omega (arith, r.next), omega (arith, r.next))
