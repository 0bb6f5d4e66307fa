-- Demand 1 for the check, in document 01's terms: what its answer says is decided by the rows, each a plain condition on the words.
use mathlib.Core.Path.{◌≡◌, refl, sym, ap, ◌∙◌}
use mathlib.Core.Logic.{◌↔◌}
use mathlib.Core.List.{List, [], ◌∷◌}
use Prim.Native.Nat.{ℕ}
use native.Mathlib.Omega.{arith}
use lib.ListN.{length}
use Rattle.refusal.specs.declared.Refusal.{Refusal}
use Rattle.refusal.specs.Refusals.{Says, gives, refuses, number_of, place_of}
use Rattle.table.specs.Table.{Table, boxes}
use Rattle.table.specs.Words.{box_count, pair_count, Outcome, refused, accepted, table_of, judged}
use Rattle.table.specs.Faults.{Faultless, FirstMet}
use Rattle.table.specs.Answers.{checked_of, checked_says}
use Rattle.table.proofs.Tables.{table_boxes, table_count}
use Rattle.table.proofs.Words.{accepted_fine}
use Rattle.table.proofs.Faults.{refused_first, first_refused, accepted_faultless, faultless_accepted}

-- what the check of these words says
abbrev pub check_says : List ℕ → Says
check_says ws = checked_says (checked_of (judged ws))

refuses_by : (o : Outcome) (number place : ℕ) → checked_says (checked_of o) ≡ refuses number place
    → (f : Refusal) × (o ≡ refused f) × (number_of f ≡ number) × (place_of f ≡ place)
refuses_by (refused f) number place e = (f, refl, cc, cc)
refuses_by (accepted t) number place e = absurd (let z : ◌≡◌ {A = ℕ} 0 1 = cc in omega arith)

gives_by : (o : Outcome) (n p : ℕ) → checked_says (checked_of o) ≡ gives (n ∷ p ∷ []) → (t : Table) × (o ≡ accepted t) × (n ≡ boxes t) × (p ≡ length t.pairs)
gives_by (refused f) n p e = absurd (let z : ◌≡◌ {A = ℕ} 0 1 = cc in omega arith)
gives_by (accepted t) n p e = (t, refl, cc, cc)

-- The check refuses with a number and a place exactly if that row's fault, at that place, is the first met from the left.
pub check_refuses : (ws : List ℕ) (number place : ℕ) → (check_says ws ≡ refuses number place) ↔ FirstMet ws number place
check_refuses ws number place = (there, back)
  where
    there : check_says ws ≡ refuses number place → FirstMet ws number place
    there e = let (f, p, n, q) = refuses_by (judged ws) number place e in rw (n, q) at (refused_first ws f p)

    back : FirstMet ws number place → check_says ws ≡ refuses number place
    back M = let (f, p, n, q) = first_refused ws number place M in rw (p, n, q)

-- It gives two counts exactly if no fault of rows 1 to 7 is there, and they are the table's.
pub check_gives : (ws : List ℕ) (n p : ℕ) → (check_says ws ≡ gives (n ∷ p ∷ [])) ↔ (Faultless ws × (n ≡ box_count ws) × (p ≡ pair_count ws))
check_gives ws n p = (there, back)
  where
    counts : judged ws ≡ accepted (table_of ws) → check_says ws ≡ gives (box_count ws ∷ pair_count ws ∷ [])
    counts A = rw (A, table_boxes ws A, table_count ws A)

    there : check_says ws ≡ gives (n ∷ p ∷ []) → Faultless ws × (n ≡ box_count ws) × (p ≡ pair_count ws)
    there e =
        let (t, q, l, m) = gives_by (judged ws) n p e in
        let A = q ∙ ap accepted (sym (accepted_fine ws t q).1) in
        let same = sym e ∙ counts A in
        (accepted_faultless ws t q, cc, cc)

    back : Faultless ws × (n ≡ box_count ws) × (p ≡ pair_count ws) → check_says ws ≡ gives (n ∷ p ∷ [])
    back (F, l, m) = rw (l, m) (counts (faultless_accepted ws F))
