-- The rows of a made list as the loops go through them, entry by entry and box by box, and the whole list.
use mathlib.Core.Path.{◌≡◌, sym, ap, ap₂, ◌∙◌}
use mathlib.Core.List.{List, [], ◌∷◌, ◌++◌, map, flat_map}
use Prim.Native.Nat.{ℕ, ◌+◌, ◌-◌, ◌≤◌, ◌<◌, pred}
use native.Mathlib.Omega.{arith}
use lib.ListN.{length, get_or, replicate}
use Rattle.lists.specs.Lists.{count, nth}
use Rattle.lists.proofs.Runs.{count_turn, count_end}
use Rattle.lists.specs.Stores.{Wrote, Owes}
use Rattle.lists.proofs.Stores.{wrote_append, owes_part}
use Rattle.table.specs.Table.{Table, boxes, size}
use Rattle.table.specs.Words.{box_count, size_at, table_of}
use Rattle.table.proofs.Tables.{table_size}
use Rattle.clause.specs.declared.Hard.{Hard}
use Rattle.clause.specs.declared.Side.{Side}
use Rattle.clause.specs.Numbers.{switches}
use Rattle.decoder.specs.Lists.{bit, value_row, step_row, value_bits, step_bits, made}
use Rattle.maker.specs.declared.Part.{Part}
use Rattle.maker.specs.declared.Part.TheVariants.{Values, Thresholds}
use Rattle.maker.specs.Rows.{first_in, due_in, row_of, rows_of}

-- ---- a row, from j to m

module _ (p : Part) (m a : ℕ) where
  abbrev pub row_from : ℕ → List ℕ
  row_from j = map (λ k. bit (due_in p k a)) (count j (m + 1 - j))

  pub row_turn : (j : ℕ) → j ≤ m → row_from j ≡ bit (due_in p j a) ∷ row_from (j + 1)
  row_turn j h = ap (map (λ k. bit (due_in p k a))) (count_turn j m h)

  pub row_end : (j : ℕ) → m < j → row_from j ≡ []
  row_end j h = ap (map (λ k. bit (due_in p k a))) (count_end j m h)

pub row_all : (p : Part) (m a : ℕ) → row_from p m a (first_in p) ≡ row_of p m a
unfolding value_row step_row
row_all Values m a = let z : m + 1 - 1 ≡ m = omega arith in rw z
row_all Thresholds m a = let z : m + 1 - 2 ≡ pred m = omega arith in rw z

pub first_low : (p : Part) → (1 ≤ first_in p) × (first_in p ≤ 2)
first_low Values = (omega arith, omega arith)
first_low Thresholds = (omega arith, omega arith)

-- ---- the rows, from box b to box n

module _ (p : Part) (t : Table) (plan : List ℕ) where
  abbrev pub rows_from : (n b : ℕ) → List ℕ
  rows_from n b = flat_map (λ c. row_of p (size t c) (nth plan c)) (count b (n + 1 - b))

  pub rows_turn : (n b : ℕ) → b ≤ n → rows_from n b ≡ row_of p (size t b) (nth plan b) ++ rows_from n (b + 1)
  unfolding flat_map
  rows_turn n b h = ap (flat_map (λ c. row_of p (size t c) (nth plan c))) (count_turn b n h)

  pub rows_end : (n b : ℕ) → n < b → rows_from n b ≡ []
  unfolding flat_map
  rows_end n b h = ap (flat_map (λ c. row_of p (size t c) (nth plan c))) (count_end b n h)

-- a turn: the row of box b, whose size is read in the table and whose value in the plan, is stored
pub rows_owed : (p : Part) (ws plan : List ℕ) (n b m w a : ℕ) {old all out new : List ℕ} {start at r : ℕ}
    → Owes old start all out at (rows_from p (table_of ws) plan n b) → Wrote out at (row_of p m a) r new
    → 1 ≤ b → b ≤ n → n ≡ box_count ws → m ≡ size_at ws b → w ≡ b → a ≡ get_or plan (w - 1) 0
    → Owes old start all new r (rows_from p (table_of ws) plan n (b + 1))
rows_owed p ws plan n b m w a o stored l h N e q z =
    let m-is : size (table_of ws) b ≡ m = table_size ws b l (omega arith) ∙ sym e in
    let a-is : nth plan b ≡ a = sym (z ∙ ap (λ (k : ℕ). get_or plan (k - 1) 0) q) in
    owes_part o (rows_turn p (table_of ws) plan n b h ∙ ap₂ (λ (m a : ℕ). row_of p m a ++ rows_from p (table_of ws) plan n (b + 1)) m-is a-is) stored

pub rows_all : (p : Part) (t : Table) (plan : List ℕ) (n : ℕ) → n ≡ boxes t → rows_from p t plan n 1 ≡ rows_of p t plan
unfolding value_bits step_bits
rows_all Values t plan n e = let z : n + 1 - 1 ≡ length t.sizes = omega arith in rw z
rows_all Thresholds t plan n e = let z : n + 1 - 1 ≡ length t.sizes = omega arith in rw z

-- ---- the whole list

-- the values, the thresholds and the zeros, stored one after the other
pub made_wrote : (hard : Hard) (side : Side) (t : Table) (plan : List ℕ) {old first second new : List ℕ} {k thresholds zeros end : ℕ}
    → Wrote old 0 (value_bits t plan) thresholds first → Wrote first thresholds (step_bits hard t plan) zeros second
    → Wrote second zeros (replicate k 0) end new → k ≡ switches t side → Wrote old 0 (made hard side t plan) end new
unfolding made
made_wrote hard side t plan u v w e = wrote_append u (wrote_append v (rw e at w))
