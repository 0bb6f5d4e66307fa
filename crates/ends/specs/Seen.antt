-- The end of a pair that the code's `Seen` is, and what a caller must show of it.
use Rattle.std.specs.Prelude.{ℕ, ◌+◌, ◌^◌, ◌<◌, ◌≡◌, Bool, true, false, cond, List, get_or}
use Rattle.table.specs.Table.{Pair, allowed}
use Rattle.table.specs.Words.{size_at, pair_at, PairStands}
use Rattle.clause.specs.Ends.{End}
use Rattle.ends.specs.declared.Seen.{Seen}

-- which values go together: the first box's come first, and the second box's where it is turned
abbrev pub together : Bool → Pair → ℕ → ℕ → Bool
together false p j i = allowed p j i
together true p j i = allowed p i j

abbrev pub end_of : List ℕ → Seen → End
end_of ws seen =
    record {
      own = seen.own;
      mine = seen.mine;
      other = seen.other;
      theirs = seen.theirs;
      ok = together seen.turned (pair_at ws seen.at);
    }

-- the box that sees the pair, and the other one
abbrev pub own_box : List ℕ → Seen → ℕ
own_box ws seen = cond seen.turned (get_or ws (seen.at + 1) 0) (get_or ws seen.at 0)

abbrev pub other_box : List ℕ → Seen → ℕ
other_box ws seen = cond seen.turned (get_or ws seen.at 0) (get_or ws (seen.at + 1) 0)

-- a pair stands at the cursor, the numbers of values are those of its two boxes, and their variables are far below 2 ^ 31
pub record SeenWell (ws : List ℕ) (seen : Seen) : Type 0 where
  pub pair : PairStands ws seen.at
  pub mine : seen.mine ≡ size_at ws (own_box ws seen)
  pub theirs : seen.theirs ≡ size_at ws (other_box ws seen)
  pub own : seen.own < 2 ^ 20
  pub other : seen.other < 2 ^ 20
