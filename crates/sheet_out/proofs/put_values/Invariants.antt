-- The lines of the sizes that are left are still owed.
use Rattle.text_out.specs.Texts.{line_of}
use Rattle.text_out.proofs.Listed.{Listed}
use Rattle.sheet.specs.Keys.{values_key}
use Rattle.sheet_out.proofs.put_values.Given as goal

abbrev pub invariant-loop-m : goal.invariant-loop-m
invariant-loop-m l = Listed (line_of values_key) l.initial.text l.from l.sizes l.text l.at l.m-index
