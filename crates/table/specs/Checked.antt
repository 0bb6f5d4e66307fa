-- A table that was checked: what its words mean.
use Rattle.table.specs.declared.Checked.{Checked}
use Rattle.table.specs.Table.{Table}
use Rattle.table.specs.Words.{table_of}

abbrev pub table_in : Checked → Table
table_in c = table_of c.words.now
