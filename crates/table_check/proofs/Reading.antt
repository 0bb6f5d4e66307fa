-- An answer of a part of the check, taken apart: which case it is says whether there was a fault, and which; and the whole answer from its parts.
use Rattle.std.specs.Prelude.{Result, Ok, Err}
use mathlib.Core.Path.{◌≡◌, refl, sym, ◌∙◌, subst}
use mathlib.Core.Option.{Option, none, some}
use mathlib.Core.List.{List}
use Prim.Native.Nat.{ℕ}
use lib.ListN.{get_or}
use Rattle.refusal.specs.declared.Refusal.{Refusal}
use Rattle.refusal.specs.declared.Refusal.TheVariants.{Count}
use Rattle.table.specs.Words.{box_count, pair_count, range_fault, body_fault, first_fault_lem, judged}
use Rattle.table.specs.Answers.{checked_of}
use Rattle.table.proofs.Words.{Ranged, range_none, partners_none, box_stands, table_counts, end_turn, end_last}
use Rattle.lists.proofs.Firsts.{first_end, first_next, first_found}
use Rattle.table_check.specs.Reading.{body_of}
use Rattle.refusal.specs.Refusals.{result_of}
use Rattle.refusal.proofs.Results.{result_ok, result_err}

pub got_ranged : (ws : List ℕ) (at low high : ℕ) (f : Refusal) {r : Result ℕ Refusal} {v : ℕ}
    → r ≡ result_of (range_fault ws at low high f) (get_or ws at 0) → r ≡ Ok v → Ranged ws at low high f v
got_ranged ws at low high f p q =
    let e = result_ok (range_fault ws at low high f) (get_or ws at 0) (sym p ∙ q) in
    subst (Ranged ws at low high f) e.1 (range_none ws at low high f e.0)

-- ---- the whole answer

-- a fault is answered as it is
checked_fault : (ws : List ℕ) (f : Refusal) → first_fault_lem ws ≡ some f → checked_of (judged ws) ≡ Err f
unfolding judged
checked_fault ws f e = rw e

pub boxes_fault : (ws : List ℕ) {f : Refusal} → range_fault ws 0 1 64 (Count 0) ≡ some f → checked_of (judged ws) ≡ Err f
unfolding first_fault_lem
boxes_fault ws e = checked_fault ws _ (rw e)

pub pairs_fault : (ws : List ℕ) {f : Refusal} → range_fault ws 0 1 64 (Count 0) ≡ none → range_fault ws 1 0 256 (Count 1) ≡ some f
    → checked_of (judged ws) ≡ Err f
unfolding first_fault_lem
pairs_fault ws p e = checked_fault ws _ (rw (p, e))

-- where the counts are in range, the rest decides
first_body : (ws : List ℕ) → range_fault ws 0 1 64 (Count 0) ≡ none → range_fault ws 1 0 256 (Count 1) ≡ none
    → first_fault_lem ws ≡ body_fault ws (box_count ws) (pair_count ws)
unfolding first_fault_lem
first_body ws p q = rw (p, q)

pub checked_body : (ws : List ℕ) → range_fault ws 0 1 64 (Count 0) ≡ none → range_fault ws 1 0 256 (Count 1) ≡ none
    → checked_of (judged ws) ≡ body_of ws (box_count ws) (pair_count ws)
unfolding judged
checked_body ws p q = go (body_fault ws (box_count ws) (pair_count ws)) refl
  where
    go : (o : Option Refusal) → body_fault ws (box_count ws) (pair_count ws) ≡ o → checked_of (judged ws) ≡ result_of o (record { boxes = box_count ws; pairs = pair_count ws })
    go none e =
        let f = first_body ws p q ∙ e in
        let c = table_counts ws f in
        rw (f, c.0, c.1)
    go (some f) e = rw (first_body ws p q, e)

-- ---- what the functions' goals are found with

-- a turn of a loop that reads, and its end
pub ruleset turns = (first_end, first_next, first_found, result_ok, result_err, end_turn, end_last)

-- what it says of words that they met no fault
pub ruleset faultless = (result_ok, result_err, range_none, partners_none, box_stands)

-- the answer from its parts
pub ruleset whole = (result_ok, result_err, got_ranged, boxes_fault, pairs_fault, checked_body)
