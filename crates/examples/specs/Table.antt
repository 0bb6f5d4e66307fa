-- P1 to P9 of document 01, in one table: what the definitions give for its small tables.
use Rattle.std.specs.Prelude.{ℕ, ◌≡◌, List, [], ◌∷◌, ℤ, pos}
use Rattle.refusal.specs.Refusals.{Says, gives, refuses}
use Rattle.table.specs.Table.{Table}
use Rattle.table.specs.Words.{judged}
use Rattle.clause.specs.declared.Encoding.{Encoding}
use Rattle.clause.specs.Encodings.{picked_of}
use Rattle.clause.specs.Clause.{entries_of, entries, weights}
use Rattle.clause.specs.List.{hard_part, soft_part, clauses}
use Rattle.clause.specs.Lengths.{top}
use Rattle.puts.specs.Signed.{neg}
use Rattle.asked.specs.Asked.{over}
use Rattle.decoder.specs.Answers.{decoded_of, decoded_says, plan_after}

-- the numbers of the hard part and of the side, the words, and what is to be found
pub data Example : Type 0 where
  whole_list : (hard side : ℕ) → List ℕ → List ℤ → List ℕ → Example
  hard_clauses : (hard side : ℕ) → List ℕ → List ℤ → Example
  soft_clauses : (hard side : ℕ) → List ℕ → List ℤ → Example
  top_is : (hard side : ℕ) → List ℕ → ℕ → Example
  decodes : (hard side : ℕ) → List ℕ → List ℕ → List ℕ → Says → Example

abbrev part : (Encoding → Table → List ℤ) → ℕ → ℕ → List ℕ → List ℤ
part f hard side ws = over (picked_of hard side) (judged ws) (λ r. []) f

abbrev pub Holds : Example → Type 0
Holds (whole_list hard side ws es wts) =
    (part (λ e t. entries (clauses e.hard e.side t)) hard side ws ≡ es)
    × (over (picked_of hard side) (judged ws) (λ r. []) (λ e t. weights (clauses e.hard e.side t)) ≡ wts)
Holds (hard_clauses hard side ws es) = part (λ e t. entries_of (hard_part e.hard t)) hard side ws ≡ es
Holds (soft_clauses hard side ws es) = part (λ e t. entries (soft_part e.hard e.side t)) hard side ws ≡ es
Holds (top_is hard side ws n) = over (picked_of hard side) (judged ws) (λ r. 0) (λ e t. top t) ≡ n
Holds (decodes hard side ws list plan says) =
    (decoded_says (decoded_of (picked_of hard side) (judged ws) list 2) ≡ says)
    × (plan_after (picked_of hard side) (judged ws) list (0 ∷ 0 ∷ []) ≡ plan)

-- 2 and 3 values, weight 7; and one box of one value
abbrev small : List ℕ
small = 2 ∷ 1 ∷ 2 ∷ 3 ∷ 1 ∷ 2 ∷ 7 ∷ 6 ∷ 0 ∷ []

abbrev single : List ℕ
single = 1 ∷ 0 ∷ 1 ∷ []

abbrev o : ℤ
o = pos 0

abbrev pub p1 : Example
p1 =
    whole_list 0 3 small
    (pos 1 ∷ pos 2 ∷ o ∷ neg 1 ∷ neg 2 ∷ o ∷ pos 3 ∷ pos 4 ∷ pos 5 ∷ o ∷ neg 3 ∷ neg 4 ∷ o ∷ neg 3 ∷ neg 5 ∷ o ∷ neg 4 ∷ neg 5 ∷ o
    ∷ neg 1 ∷ pos 4 ∷ pos 5 ∷ o ∷ neg 2 ∷ o ∷ [])
    (0 ∷ 0 ∷ 0 ∷ 0 ∷ 0 ∷ 0 ∷ 7 ∷ 7 ∷ [])

abbrev pub p2 : Example
p2 = soft_clauses 0 1 small (neg 1 ∷ neg 3 ∷ o ∷ neg 2 ∷ neg 3 ∷ o ∷ neg 2 ∷ neg 4 ∷ o ∷ neg 2 ∷ neg 5 ∷ o ∷ [])

abbrev pub p3 : Example
p3 =
    soft_clauses 0 2 small
    (neg 1 ∷ pos 4 ∷ pos 5 ∷ pos 6 ∷ o ∷ neg 2 ∷ pos 6 ∷ o ∷ neg 3 ∷ neg 6 ∷ o ∷ neg 4 ∷ pos 1 ∷ neg 6 ∷ o ∷ neg 5 ∷ pos 1 ∷ neg 6 ∷ o ∷ [])

abbrev pub p4_literals : Example
p4_literals = soft_clauses 0 4 small (neg 1 ∷ pos 4 ∷ pos 5 ∷ o ∷ neg 2 ∷ o ∷ [])

abbrev pub p4_score : Example
p4_score = soft_clauses 0 5 small (neg 3 ∷ o ∷ neg 4 ∷ pos 1 ∷ o ∷ neg 5 ∷ pos 1 ∷ o ∷ [])

abbrev pub p5 : Example
p5 =
    hard_clauses 1 3 small
    (neg 1 ∷ neg 6 ∷ o ∷ pos 1 ∷ pos 6 ∷ o ∷ neg 2 ∷ pos 6 ∷ o ∷ pos 2 ∷ neg 6 ∷ o
    ∷ neg 8 ∷ pos 7 ∷ o ∷ neg 3 ∷ neg 7 ∷ o ∷ pos 3 ∷ pos 7 ∷ o ∷ neg 4 ∷ pos 7 ∷ o ∷ neg 4 ∷ neg 8 ∷ o ∷ pos 4 ∷ neg 7 ∷ pos 8 ∷ o
    ∷ neg 5 ∷ pos 8 ∷ o ∷ pos 5 ∷ neg 8 ∷ o ∷ [])

abbrev pub p6 : Example
p6 = decodes 0 3 small (0 ∷ 1 ∷ 1 ∷ 0 ∷ 0 ∷ []) (2 ∷ 1 ∷ []) (gives (7 ∷ []))

abbrev pub p7_kept : Example
p7_kept = decodes 0 3 small (1 ∷ 0 ∷ 0 ∷ 1 ∷ 0 ∷ []) (1 ∷ 2 ∷ []) (gives (0 ∷ []))

abbrev pub p7_two : Example
p7_two = decodes 0 3 small (0 ∷ 1 ∷ 0 ∷ 1 ∷ 1 ∷ []) (0 ∷ 0 ∷ []) (refuses 12 2)

abbrev pub p7_none : Example
p7_none = decodes 0 3 small (0 ∷ 0 ∷ 0 ∷ 0 ∷ 0 ∷ []) (0 ∷ 0 ∷ []) (refuses 12 1)

abbrev pub p8 : Example
p8 = decodes 1 3 small (0 ∷ 1 ∷ 0 ∷ 0 ∷ 1 ∷ 1 ∷ 1 ∷ 1 ∷ []) (2 ∷ 3 ∷ []) (gives (7 ∷ []))

abbrev pub p8_thresholds : Example
p8_thresholds = decodes 1 3 small (0 ∷ 1 ∷ 0 ∷ 0 ∷ 1 ∷ 1 ∷ 0 ∷ 1 ∷ []) (0 ∷ 0 ∷ []) (refuses 12 2)

abbrev pub p9 : Example
p9 = whole_list 0 1 single (pos 1 ∷ o ∷ []) (0 ∷ [])

abbrev pub p9_top : Example
p9_top = top_is 0 1 single 1

abbrev pub p9_one : Example
p9_one = decodes 0 1 single (1 ∷ []) (1 ∷ 0 ∷ []) (gives (0 ∷ []))

abbrev pub p9_zero : Example
p9_zero = decodes 0 1 single (0 ∷ []) (0 ∷ 0 ∷ []) (refuses 12 1)

abbrev pub table : List Example
table =
    p1 ∷ p2 ∷ p3 ∷ p4_literals ∷ p4_score ∷ p5 ∷ p6 ∷ p7_kept ∷ p7_two ∷ p7_none ∷ p8 ∷ p8_thresholds ∷ p9 ∷ p9_top ∷ p9_one ∷ p9_zero ∷ []
