-- The text of a table.
use Rattle.std.specs.Prelude.{ℕ, List}
use Rattle.table.specs.Table.{Table}
use Rattle.clause.specs.declared.Encoding.{Encoding}
use Rattle.wcnf.specs.Wcnf.{wcnf_text}

abbrev pub text_of : Encoding → Table → List ℕ
text_of e t = wcnf_text e.hard e.side t
