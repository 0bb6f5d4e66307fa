-- Decided by the inputs: what a program in another language is told. The slots' values are equal where the lists of them are.
use mathlib.Core.Path.{◌≡◌, subst}
use mathlib.Core.List.{List, [], ◌∷◌}
use Prim.Native.Nat.{ℕ}
use Rattle.outcomes.specs.Decided.{Decided}
use Rattle.outcomes.proofs.Law.{same, decided}
use Rattle.codes
use Rattle.exports

-- slot by slot
abbrev Same : List ℕ → List ℕ → Type 0
Same [] ys = Unit {0}
Same (a ∷ xs) [] = Unit {0}
Same (a ∷ xs) (b ∷ ys) = (a ≡ b) × Same xs ys

all_same : (xs : List ℕ) → Same xs xs
all_same [] = tt
all_same (a ∷ xs) = (λ i. a, all_same xs)

slots : {xs ys : List ℕ} → xs ≡ ys → Same xs ys
slots {xs} e = subst (λ (ys : List ℕ). Same xs ys) e (all_same xs)

pub codes_code_decided : Decided codes.specs.contracts.code.ended codes.proofs.code.Reads.Post
codes_code_decided = decided λ _ _ _ _ p q. search same

pub exports_wickcollar_check_decided : Decided exports.specs.contracts.wickcollar_check.ended exports.proofs.wickcollar_check.Reads.Post
exports_wickcollar_check_decided = decided λ _ _ _ _ p q. (same p.code q.code, slots (same p.slots q.slots))

pub exports_wickcollar_cost_decided : Decided exports.specs.contracts.wickcollar_cost.ended exports.proofs.wickcollar_cost.Reads.Post
exports_wickcollar_cost_decided = decided λ _ _ _ _ p q. (same p.code q.code, slots (same p.slots q.slots))

pub exports_wickcollar_lengths_decided : Decided exports.specs.contracts.wickcollar_lengths.ended exports.proofs.wickcollar_lengths.Reads.Post
exports_wickcollar_lengths_decided = decided λ _ _ _ _ p q. (same p.code q.code, slots (same p.slots q.slots))

pub exports_wickcollar_scratch_lengths_decided : Decided exports.specs.contracts.wickcollar_scratch_lengths.ended exports.proofs.wickcollar_scratch_lengths.Reads.Post
exports_wickcollar_scratch_lengths_decided = decided λ _ _ _ _ p q. (same p.code q.code, slots (same p.slots q.slots))

pub exports_wickcollar_encode_decided : Decided exports.specs.contracts.wickcollar_encode.ended exports.proofs.wickcollar_encode.Reads.Post
exports_wickcollar_encode_decided = decided λ _ _ _ _ p q. (
  same p.told.code q.told.code,
  (
    same p.left.first_left q.left.first_left,
    (
      same p.left.second_left q.left.second_left,
      (
        same p.left.literals_left q.left.literals_left,
        (same p.left.weights_left q.left.weights_left, slots (same p.told.slots q.told.slots)),
      ),
    ),
  ),
)

pub exports_wickcollar_decode_decided : Decided exports.specs.contracts.wickcollar_decode.ended exports.proofs.wickcollar_decode.Reads.Post
exports_wickcollar_decode_decided = decided λ _ _ _ _ p q. (same p.0.code q.0.code, (same p.1 q.1, slots (same p.0.slots q.0.slots)))

pub exports_wickcollar_make_list_decided : Decided exports.specs.contracts.wickcollar_make_list.ended exports.proofs.wickcollar_make_list.Reads.Post
exports_wickcollar_make_list_decided = decided λ _ _ _ _ p q. (same p.0.code q.0.code, (same p.1 q.1, slots (same p.0.slots q.0.slots)))

pub exports_wickcollar_read_sheet_decided : Decided exports.specs.contracts.wickcollar_read_sheet.ended exports.proofs.wickcollar_read_sheet.Reads.Post
exports_wickcollar_read_sheet_decided = decided λ _ _ _ _ p q. (same p.0.code q.0.code, (same p.1 q.1, slots (same p.0.slots q.0.slots)))

pub exports_wickcollar_write_sheet_decided : Decided exports.specs.contracts.wickcollar_write_sheet.ended exports.proofs.wickcollar_write_sheet.Reads.Post
exports_wickcollar_write_sheet_decided = decided λ _ _ _ _ p q. (same p.0.code q.0.code, (same p.1 q.1, slots (same p.0.slots q.0.slots)))

pub exports_wickcollar_read_list_decided : Decided exports.specs.contracts.wickcollar_read_list.ended exports.proofs.wickcollar_read_list.Reads.Post
exports_wickcollar_read_list_decided = decided λ _ _ _ _ p q.
    (same p.0.code q.0.code, (same p.1 q.1, (same p.2 q.2, slots (same p.0.slots q.0.slots))))

pub exports_wickcollar_write_wcnf_decided : Decided exports.specs.contracts.wickcollar_write_wcnf.ended exports.proofs.wickcollar_write_wcnf.Reads.Post
exports_wickcollar_write_wcnf_decided = decided λ _ _ _ _ p q. (
  same p.told.code q.told.code,
  (
    same p.left.first_left q.left.first_left,
    (
      same p.left.second_left q.left.second_left,
      (same p.left.text_left_lem q.left.text_left_lem, slots (same p.told.slots q.told.slots)),
    ),
  ),
)
