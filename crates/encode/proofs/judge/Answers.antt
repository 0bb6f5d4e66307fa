-- What is asked for is judged, and what is left is printed.
use Rattle.asked.proofs.Answers.{asked_ready}
use Rattle.clause.specs.Encodings.{picked_of}
use mathlib.Core.Path.{sym}
use Rattle.encode.proofs.judge.Goals as goal

pub invariant_of-print_all : goal.invariant_of-print_all
invariant_of-print_all g c = record { counted = (asked_ready (picked_of _ _) _ (sym c.in_ok-e.ensures)).counted }
