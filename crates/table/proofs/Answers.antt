-- The check's answer, taken apart, for its callers: which case it is says whether there was a fault, and which.
use Rattle.std.specs.Prelude.{Ok, Err}
use Prim.Native.Nat.{ℕ}
use mathlib.Core.Path.{◌≡◌, refl, ap}
use native.Mathlib.Omega.{arith}
use mathlib.Core.Option.{Option, none, some}
use mathlib.Core.List.{List}
use lib.ListN.{length}
use Rattle.refusal.specs.declared.Refusal.{Refusal}
use Rattle.table.specs.declared.Counts.{Counts}
use Rattle.table.specs.Table.{boxes}
use Rattle.table.specs.Words.{Outcome, refused, accepted, settled, first_fault_lem, table_of, judged}
use Rattle.table.specs.Answers.{checked_of, Counted}

pub checked_accepted : (ws : List ℕ) {c : Counts} → checked_of (judged ws) ≡ Ok c → Counted ws c
unfolding judged
checked_accepted ws {c} = go (first_fault_lem ws) refl
  where
    go : (o : Option Refusal) → first_fault_lem ws ≡ o → checked_of (settled o (table_of ws)) ≡ Ok c → Counted ws c
    go none p e =
        let same : c ≡ record { boxes = boxes (table_of ws); pairs = length (table_of ws).pairs } = cc in
        record { table = rw p; boxes = ap (λ (d : Counts). d.boxes) same; pairs = ap (λ (d : Counts). d.pairs) same }
    go (some f) p e = absurd (let z : ◌≡◌ {A = ℕ} 0 1 = cc in omega arith)

pub checked_refused : (o : Outcome) {f : Refusal} → checked_of o ≡ Err f → o ≡ refused f
checked_refused (refused g) e = cc
checked_refused (accepted t) e = cc
