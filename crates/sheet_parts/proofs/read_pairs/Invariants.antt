-- What is left to read gives what the whole gives.
use Rattle.sheet_parts.proofs.Steps.{Rest}
use Rattle.sheet_parts.specs.Reading.{pair_at}
use Rattle.sheet_parts.proofs.read_pairs.Given as goal

abbrev pub invariant-loop : goal.invariant-loop
invariant-loop l = Rest l.text (pair_at l.text l.sizes) l.p l.from l.first l.initial.table l.table l.counter l.at l.word
