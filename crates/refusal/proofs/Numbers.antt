-- The numbers of the refusals have two digits at most.
use Prim.Native.Nat.{◌<◌}
use native.Mathlib.Omega.{arith}
use Rattle.refusal.specs.declared.Refusal.{Refusal}
use Rattle.refusal.specs.declared.Refusal.TheVariants.{Missing, Extra, Count, Domain, Partner, Weight, Mask, Choice, Room, Length, Entry, Broken, Line}
use Rattle.refusal.specs.Refusals.{number_of}

pub small_number : (f : Refusal) → number_of f < 100
small_number (Missing at) = omega arith
small_number (Extra at) = omega arith
small_number (Count at) = omega arith
small_number (Domain at) = omega arith
small_number (Partner at) = omega arith
small_number (Weight at) = omega arith
small_number (Mask at) = omega arith
small_number Choice = omega arith
small_number (Room needed) = omega arith
small_number (Length wanted) = omega arith
small_number (Entry at) = omega arith
small_number (Broken box) = omega arith
small_number (Line line) = omega arith
