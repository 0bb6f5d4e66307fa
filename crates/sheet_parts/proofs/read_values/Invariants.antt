-- What is left to read gives what the whole gives.
use Rattle.sheet_parts.proofs.Steps.{Rest}
use Rattle.sheet_parts.specs.Reading.{size_got}
use Rattle.sheet_parts.proofs.read_values.Given as goal

abbrev pub invariant-loop-k : goal.invariant-loop-k
invariant-loop-k l = Rest l.text (size_got l.text) l.n l.from 0 l.initial.sizes l.sizes l.k l.at l.k
