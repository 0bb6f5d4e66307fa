-- The one law of this crate: what two outcomes are both promised to equal, they have in common.
use mathlib.Core.Path.{◌≡◌, sym, ◌∙◌}
use mathlib.Core.List.{List, [], ◌∷◌}
use Prim.Native.Nat.{ℕ}
use contract.Lifetimes.{Lfts}
use denote.RattleType.{Denots}
use denote.Signature.{Slot, types_at}
use denote.Exit.{Exit, unchanged, leaves, Last}
use denote.Triple.Entry.{Args}
use denote.Triple.End.{Kepts, Fins}
use denote.Triple.Clauses.{Ended}
use Rattle.outcomes.specs.Decided.{Lives, Answer, Contract, Outcome, Permits, DecidedBy}

pub same : {A : Type 0} {d x y : A} → x ≡ d → y ≡ d → x ≡ y
same p q = p ∙ sym q

-- of an argument that is lent to be written, that both leave the same in it; of any other nothing is asked
abbrev AlikeAt : {D : Type 0} (e : Exit D) (x : D) → Last e x → Last e x → Type 0 → Type 0
AlikeAt unchanged x u v Rest = Rest
AlikeAt (leaves L l S s r₀) x u v Rest = (u ≡ v) × Rest

alike_at : {D : Type 0} (e : Exit D) (x : D) (u v : Last e x) {Rest : Type 0} → AlikeAt e x u v Rest → (u ≡ v) × Rest
alike_at unchanged x u v r = (λ i. tt, r)
alike_at (leaves L l S s r₀) x u v r = r

module _ {n : ℕ} (κs : Lfts n) where
  abbrev Alike : (ss : List (Slot n)) (ks : Kepts ss) (a : Denots (types_at ss κs)) → Fins κs ss ks a → Fins κs ss ks a → Type 0
  Alike [] ks a u v = Unit {0}
  Alike (s ∷ ss) ks a u v = AlikeAt ((s.row κs).exit ks.0) a.0 u.0 v.0 (Alike ss ks.1 a.1 u.1 v.1)

  alike : (ss : List (Slot n)) (ks : Kepts ss) (a : Denots (types_at ss κs)) (u v : Fins κs ss ks a) → Alike ss ks a u v → u ≡ v
  alike [] ks a u v e = λ i. tt
  alike (s ∷ ss) ks a u v e =
      let (first, rest) = alike_at ((s.row κs).exit ks.0) a.0 u.0 v.0 e in
      λ i. (first i, alike ss ks.1 a.1 u.1 v.1 rest i)

-- A contract of equations has one for the answer and one for each lent buffer: `same` at each, which `search` finds, whatever else is promised.
pub decided : {T : Ended} {X : Lives T → Type 0} {see : (κs : Lives T) → Answer T κs → X κs} {Post : Contract T}
    → ((κs : Lives T) (a : Args T.signature κs) (o q : Outcome T κs a) → Permits T κs a Post o → Permits T κs a Post q
    → (see κs o.0 ≡ see κs q.0) × Alike κs T.signature.params T.kept a o.1 q.1)
    → DecidedBy T X see Post
decided {T} f = record {
  equal = λ κs a o q p r.
      let (answers, lent) = f κs a o q p r in
      λ i. (answers i, alike κs T.signature.params T.kept a o.1 q.1 lent i);
}
