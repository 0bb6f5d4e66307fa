-- What an answer of `ask` says of its inputs, for whoever goes on from it.
use Rattle.std.specs.Prelude.{Result, Ok, Err}
use mathlib.Core.Path.{◌≡◌, ap}
use lib.ListN.{length}
use Rattle.table.specs.Table.{boxes}
use mathlib.Core.List.{List}
use Prim.Native.Nat.{ℕ}
use native.Mathlib.Omega.{arith}
use Rattle.refusal.specs.declared.Refusal.{Refusal}
use Rattle.table.specs.declared.Counts.{Counts}
use Rattle.table.specs.Table.{Table}
use Rattle.table.specs.Words.{Outcome, refused, accepted, judged}
use Rattle.table.specs.Answers.{Counted, checked_of}
use Rattle.table.proofs.Answers.{checked_accepted}
use Rattle.clause.specs.declared.Encoding.{Encoding}
use Rattle.asked.specs.Asked.{over, asked_of}

-- a table whose counts the check gave, in a known encoding
pub ready : (e : Encoding) (o : Outcome) {c : Counts} → checked_of o ≡ Ok c → Ok (e, c) ≡ asked_of (Ok e) o
ready e (refused f) q = absurd (let z : ◌≡◌ {A = ℕ} 0 1 = cc in omega arith)
ready e (accepted t) q = cc

-- A refusal is the answer's refusal, whatever the answer is.
pub asked_refused : {A : Type 0} (p : Result Encoding Refusal) (o : Outcome) {f : Refusal} → asked_of p o ≡ Err f
    → (bad : Refusal → A) (good : Encoding → Table → A) → over p o bad good ≡ bad f
asked_refused (Err g) o e bad good = cc
asked_refused (Ok k) (refused g) e bad good = cc
asked_refused (Ok k) (accepted t) e bad good = absurd (let z : ◌≡◌ {A = ℕ} 0 1 = cc in omega arith)

-- Else the encoding is known, and these are the counts of an accepted table.
pub record Ready (p : Result Encoding Refusal) (ws : List ℕ) (e : Encoding) (c : Counts) : Type 0 where
  pub known : p ≡ Ok e
  pub counted : Counted ws c

apart : (p : Result Encoding Refusal) (o : Outcome) {e : Encoding} {c : Counts} → asked_of p o ≡ Ok (e, c) → (p ≡ Ok e) × (checked_of o ≡ Ok c)
apart (Err f) o q = absurd (let z : ◌≡◌ {A = ℕ} 0 1 = cc in omega arith)
apart (Ok k) (refused g) q = absurd (let z : ◌≡◌ {A = ℕ} 0 1 = cc in omega arith)
apart (Ok k) (accepted t) {e} {c} q =
    let both : ◌≡◌ {A = Encoding × Counts} (k, record { boxes = boxes t; pairs = length t.pairs }) (e, c) = cc in
    (ap (λ (z : Encoding × Counts). Ok z.0) both, ap (λ (z : Encoding × Counts). Ok z.1) both)

pub asked_ready : (p : Result Encoding Refusal) (ws : List ℕ) {e : Encoding} {c : Counts} → asked_of p (judged ws) ≡ Ok (e, c) → Ready p ws e c
asked_ready p ws q = let (k, a) = apart p (judged ws) q in record { known = k; counted = checked_accepted ws a }
