-- What is left to read gives what the whole gives.
use Rattle.sheet_parts.proofs.Steps.{Rest}
use Rattle.sheet_parts.specs.Reading.{mask_got}
use Rattle.sheet_parts.proofs.read_rows.Given as goal

abbrev pub invariant-loop : goal.invariant-loop
invariant-loop l = Rest l.text (mask_got l.text l.m) l.count l.from l.first l.initial.table l.table l.counter l.at l.word
