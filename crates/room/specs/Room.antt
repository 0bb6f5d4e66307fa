-- 9 with the length needed, for the first lent buffer that is too short: the first scratch, the second, then what is written into.
use Rattle.std.specs.Prelude.{ℕ, leb}
use Rattle.std.proofs.Math.Option.{Option}
use Rattle.lists.specs.Firsts.{◌then◌, unless}
use Rattle.refusal.specs.declared.Refusal.{Refusal}
use Rattle.refusal.specs.declared.Refusal.TheVariants.{Room}
use Rattle.measure.specs.declared.Lengths.{Lengths}
use Rattle.measure.specs.declared.Scratch.{Scratch}

abbrev short : (needed room : ℕ) → Option Refusal
short needed room = unless (leb needed room) (Room needed)

-- the first of two buffers, by what they need and how long they are
unfoldable pub two_fault : (a b first second : ℕ) → Option Refusal
two_fault a b first second = short a first then short b second

-- for a clause list: the scratch, then literals and weights
unfoldable pub clauses_fault : Lengths → Scratch → (first second literals weights : ℕ) → Option Refusal
clauses_fault n s first second literals weights =
    two_fault s.first s.second first second then two_fault n.entries n.clauses literals weights

-- for a text
unfoldable pub text_fault : Scratch → (long first second text : ℕ) → Option Refusal
text_fault s long first second text = two_fault s.first s.second first second then short long text
