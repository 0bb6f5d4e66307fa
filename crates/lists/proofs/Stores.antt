-- A run of stores: what is stored in two goes is stored as one, what a loop still owes, and a slice that is copied.
use mathlib.Core.Path.{◌≡◌, refl, sym, ap, subst, ◌∙◌}
use mathlib.Core.List.{List, [], ◌∷◌, ◌++◌}
use Prim.Native.Nat.{ℕ, suc, ◌+◌, ◌≤◌, ◌<◌}
use native.Mathlib.Nat.{add-zero, add-suc, suc-add}
use native.Mathlib.Numerals.{add-one}
use native.Mathlib.Omega.{arith}
use lib.ListN.{length, get_or, take, drop, length-append, drop_of_length-le}
use lib.Seq.{sets, sets-eq, set_out, length-sets, take_at, drop-cons}
use Rattle.lists.specs.Stores.{Wrote, Owes}

module _ {A : Type 0} where
  pub sets_append : (vs ws l : List A) (i : ℕ) → sets l i (vs ++ ws) ≡ sets (sets l i vs) (i + length vs) ws
  sets_append [] ws l i = rw add-zero
  sets_append (a ∷ vs) ws l i = sets_append vs ws _ (suc i) ∙ rw (suc-add, add-suc)

  pub wrote_none : (l : List A) (at : ℕ) → Wrote l at [] at l
  wrote_none l at = record { next = sym (add-zero at); list = refl }

  -- one entry past the slice
  pub wrote_out : (l : List A) (at : ℕ) (v : A) → length l ≤ at → Wrote l at (v ∷ []) (at + 1) l
  wrote_out l at v h = record { next = refl; list = sym (set_out l at v h) }

  pub wrote_append : {vs ws a b c : List A} {at r s : ℕ} → Wrote a at vs r b → Wrote b r ws s c → Wrote a at (vs ++ ws) s c
  wrote_append {vs} {ws} {a} {b} {c} {at} p q =
      record {
        next = omega (arith, p.next, q.next, length-append vs ws);
        list = q.list ∙ rw (p.list, p.next) (sym (sets_append vs ws a at));
      }

  -- what was stored, by another name
  pub wrote_as : {old vs ws new : List A} {at r : ℕ} → vs ≡ ws → Wrote old at vs r new → Wrote old at ws r new
  wrote_as {old} {new = new} {at} {r} e w = subst (λ (l : List A). Wrote old at l r new) e w

  -- stores leave the slice as long as it was
  pub wrote_long : {old vs new : List A} {at r : ℕ} → Wrote old at vs r new → length new ≡ length old
  wrote_long {old} {vs} {new} {at} w = ap length w.list ∙ length-sets old at vs

  -- ---- a loop of stores

  pub owes_all : {l : List A} {at : ℕ} {vs : List A} → Owes l at vs l at vs
  owes_all = record { same = refl; ends = refl; long = refl }

  -- a turn: of what is owed vs is stored, and ws stays
  pub owes_part : {old all out new rest vs ws : List A} {start at r : ℕ}
      → Owes old start all out at rest → rest ≡ vs ++ ws → Wrote out at vs r new → Owes old start all new r ws
  owes_part {out = out} {vs = vs} {ws = ws} {at = at} o e w =
      record {
        same = rw (w.list, w.next) (sym (sets_append vs ws out at) ∙ ap (sets out at) (sym e) ∙ o.same);
        ends = omega (arith, w.next, o.ends, ap length e, length-append vs ws);
        long = wrote_long w ∙ o.long;
      }

  -- where the whole has room, what a turn stores has
  pub owes_room : {n : ℕ} {old all out rest : List A} {start at : ℕ} (vs ws : List A)
      → Owes old start all out at rest → rest ≡ vs ++ ws → start + length all < n → at + length vs < n
  owes_room vs ws o e h = omega (arith, o.ends, ap length e, length-append vs ws)

  pub owes_none : {old all out rest : List A} {start at : ℕ} → Owes old start all out at rest → rest ≡ [] → Wrote old start all at out
  owes_none {out = out} {at = at} o e =
      record { next = omega (arith, o.ends, ap length e); list = ap (sets out at) (sym e) ∙ o.same }

  -- ---- a loop that copies

  -- i entries of src stand in the slice from `from` on, and the others are owed
  pub record Copied (old : List A) (from : ℕ) (src out : List A) (at i : ℕ) : Type 0 where
    pub some : i ≤ length src
    pub past : at ≡ from + i
    pub owed : Owes old from src out at (drop i src)

  pub copied_none : {old src : List A} {from : ℕ} → Copied old from src old from 0
  copied_none = record { some = omega arith; past = omega arith; owed = owes_all }

  pub copied_turn : {old src out new : List A} {from at i r : ℕ} (d : A)
      → Copied old from src out at i → i < length src → Wrote out at (get_or src i d ∷ []) r new → Copied old from src new r (i + 1)
  copied_turn {src = src} {i = i} d c h w =
      record {
        some = omega arith;
        past = omega (arith, w.next, c.past);
        owed = owes_part c.owed (rw add-one (drop-cons src i d h)) w;
      }

  pub copied_all : {old src out : List A} {from at i : ℕ} → Copied old from src out at i → length src ≤ i → Wrote old from src at out
  copied_all {src = src} {i = i} c h = owes_none c.owed (drop_of_length-le src {i = i} h)

-- what is stored at the start of a list that has room for it, the list begins with
pub sets_begins : {A : Type 0} (vs old : List A) (n : ℕ) → length vs ≡ n → n ≤ length old → take n (sets old 0 vs) ≡ vs
sets_begins vs old n e h = rw (sets-eq vs old 0 (omega arith)) (take_at vs _ n e)
