-- The ends that the code sees are the ends of the definitions, and are as the writers ask.
use mathlib.Core.Path.{◌≡◌, refl, ap, ◌∙◌}
use mathlib.Core.List.{List}
use Prim.Native.Nat.{ℕ, ◌+◌, ◌≤◌}
use native.Mathlib.Omega.{arith}
use lib.ListN.{get_or}
use Rattle.table.specs.Table.{size, In}
use Rattle.table.specs.Words.{box_count, size_at, pair_at, table_of, Accepted, BoxStands, PairStands}
use Rattle.table.proofs.Tables.{table_size, pair_first, pair_second}
use Rattle.reader.specs.declared.PairHead.{PairHead}
use Rattle.reader.specs.Reader.{head_at_lem}
use Rattle.clause.specs.Numbers.{value_base_lem}
use Rattle.clause.proofs.Lengths.{Small, end_small}
use Rattle.clause.specs.Ends.{Which, one, two, end}
use Rattle.numbers.proofs.Counted.{base_small}
use Rattle.ends.specs.declared.Seen.{Seen}
use Rattle.ends.specs.Seen.{end_of, SeenWell}
use Rattle.ends.proofs.Ends.{mine_few, theirs_few}
use Rattle.sight.specs.Sight.{seen_of, turned_of}

-- the two boxes of the pair whose head was read
pub head_first : (ws : List ℕ) (at : ℕ) (pair : PairHead) → pair ≡ head_at_lem ws at → PairStands ws at → BoxStands ws pair.first
head_first ws at pair e S = rw (ap (λ (h : PairHead). h.first) e ∙ pair_first ws at) S.first

pub head_second : (ws : List ℕ) (at : ℕ) (pair : PairHead) → pair ≡ head_at_lem ws at → PairStands ws at → BoxStands ws pair.second
head_second ws at pair e S = rw (ap (λ (h : PairHead). h.second) e ∙ pair_second ws at) S.second

-- a box that stands may be asked for the number of the variables before it
pub stands_in : {ws : List ℕ} {b : ℕ} → BoxStands ws b → In 1 (box_count ws + 1) b
stands_in B = (B.number.0, omega (arith, B.number.1))

module _ (ws : List ℕ) (at : ℕ) where
  pub seen_end : (w : Which) → end_of ws (seen_of ws at w) ≡ end (table_of ws) (pair_at ws at) w
  unfolding end
  seen_end one = refl
  seen_end two = refl

  module _ (A : Accepted ws) (S : PairStands ws at) where
    first_size : size (table_of ws) (pair_at ws at).first ≡ size_at ws (get_or ws at 0)
    first_size = rw (pair_first ws at) (table_size ws (get_or ws at 0) S.first.number.0 S.first.number.1)

    second_size : size (table_of ws) (pair_at ws at).second ≡ size_at ws (get_or ws (at + 1) 0)
    second_size = rw (pair_second ws at) (table_size ws (get_or ws (at + 1) 0) S.second.number.0 S.second.number.1)

    first_base : value_base_lem (table_of ws) (pair_at ws at).first ≤ 1024
    first_base = rw (pair_first ws at) (base_small ws A (get_or ws at 0) (stands_in S.first))

    second_base : value_base_lem (table_of ws) (pair_at ws at).second ≤ 1024
    second_base = rw (pair_second ws at) (base_small ws A (get_or ws (at + 1) 0) (stands_in S.second))

    pub seen_well : (w : Which) → SeenWell ws (seen_of ws at w)
    seen_well one =
        record { pair = S; mine = first_size; theirs = second_size; own = omega (arith, first_base); other = omega (arith, second_base) }
    seen_well two =
        record { pair = S; mine = second_size; theirs = first_size; own = omega (arith, second_base); other = omega (arith, first_base) }

-- what a caller knows of an end that it was handed
pub record Sees (ws : List ℕ) (at : ℕ) (w : Which) (seen : Seen) : Type 0 where
  pub well : SeenWell ws seen
  pub is : end_of ws seen ≡ end (table_of ws) (pair_at ws at) w

pub sees : (ws : List ℕ) (at : ℕ) (w : Which) (seen : Seen) → seen ≡ seen_of ws at w → Accepted ws → PairStands ws at → Sees ws at w seen
sees ws at w seen e A S = record { well = rw e (seen_well ws at A S w); is = rw e (seen_end ws at w) }

-- a caller that was handed the pair as its first box sees it, and turned, knows both ends
pub both_seen : {ws : List ℕ} {at : ℕ} {a b : Seen} → a ≡ seen_of ws at one → b ≡ turned_of a → Accepted ws → PairStands ws at
    → Sees ws at one a × Sees ws at two b
both_seen {ws} {at} {a} {b} p q A S = (sees ws at one a p A S, sees ws at two b (q ∙ ap turned_of p) A S)

-- ---- few values

pub pair_small : (ws : List ℕ) (at : ℕ) → Accepted ws → PairStands ws at → (w : Which) → Small (end (table_of ws) (pair_at ws at) w)
pair_small ws at A S =
    end_small (table_of ws) (pair_at ws at) (rw (first_size ws at A S) S.first.values.1) (rw (second_size ws at A S) S.second.values.1)

pub seen_small : {ws : List ℕ} {seen : Seen} → SeenWell ws seen → Small (end_of ws seen)
seen_small W = record { mine = (mine_few W).1; theirs = (theirs_few W).1 }
