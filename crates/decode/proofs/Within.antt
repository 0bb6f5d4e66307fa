-- What a sheet and its list give lies in the table and in the list that were lent.
use Rattle.std.specs.Prelude.{Ok}
use mathlib.Core.Path.{◌≡◌, sym, ap, subst}
use mathlib.Core.Option.{none}
use Prim.Native.Nat.{ℕ, ◌≤◌}
use native.Mathlib.Omega.{arith}
use lib.ListN.{length}
use lib.Dec.{eqb, leb}
use borrow.Author.Tests.{leb-true}
use Rattle.lists.specs.Firsts.{unless}
use Rattle.lists.proofs.Firsts.{unless_none, then_none}
use Rattle.refusal.specs.declared.Refusal.TheVariants.{Room, Length}
use Rattle.decoder.specs.Answers.{room_fault}
use Rattle.list_store.specs.declared.ReadList.{ReadList}
use Rattle.list_store.specs.Listed.{Listed, listed, faulty}
use Rattle.list_store.specs.Answers.{wanted, fault, read_of}
use Rattle.refusal.proofs.Results.{result_ok}

fits : (n room : ℕ) → room_fault n room ≡ none → n ≤ room
fits n room e = leb-true _ _ (unless_none (leb n room) (Room n) e)

pub read_most : (x : Listed) (table list : ℕ) {r : ReadList} → Ok r ≡ read_of x table list → (r.words ≤ table) × (r.entries ≤ list)
unfolding fault
read_most (listed h d ws l) table list e =
    let r = result_ok (fault h d ws l table list) (record { hard = h; side = d; words = length ws; entries = length l }) (sym e) in
    let a = then_none (unless (eqb (length l) (wanted h d ws)) (Length (wanted h d ws))) _ r.0 in
    let b = then_none (room_fault (length l) list) (room_fault (length ws) table) a.1 in (
      subst (λ (k : ℕ). k ≤ table) (ap (λ (x : ReadList). x.words) r.1) (fits (length ws) table b.1),
      subst (λ (k : ℕ). k ≤ list) (ap (λ (x : ReadList). x.entries) r.1) (fits (length l) list b.0),
    )
read_most (faulty l) table list e = absurd (let z : ◌≡◌ {A = ℕ} 0 1 = cc in omega arith)
