-- Each exit is one way that a list is judged; then both are stored.
use Rattle.list_store.proofs.Answers.{other_length, list_short, table_short, both_fit}
use Rattle.list_entries.specs.Entries.{entries_of}
use Rattle.list_entries.proofs.Entries.{length_entries}
use mathlib.Core.Path.{refl}
use native.Mathlib.Omega.{arith}
use Rattle.list_store.proofs.store.Goals as goal

pub returns-then-m-due : goal.returns-then-m-due
returns-then-m-due c =
    let a = c.args in
    other_length a.hard a.side a.words.now (entries_of a.characters.now) a.table.now a.list.now refl (length_entries a.characters.now)
    c.wanted-due.ensures (λ e. omega arith)

pub returns-then-list-m : goal.returns-then-list-m
returns-then-list-m c =
    let a = c.args in
    list_short a.hard a.side a.words.now (entries_of a.characters.now) a.table.now a.list.now refl (length_entries a.characters.now)
    c.wanted-due.ensures (omega arith) (omega arith)

pub returns-then-table-n : goal.returns-then-table-n
returns-then-table-n c =
    let a = c.args in
    table_short a.hard a.side a.words.now (entries_of a.characters.now) a.table.now a.list.now refl (length_entries a.characters.now)
    c.wanted-due.ensures (omega arith) (omega arith) (omega arith)

pub returns : goal.returns
returns c =
    let a = c.args in
    both_fit a.hard a.side a.words.now (entries_of a.characters.now) a.table.now a.list.now refl (length_entries a.characters.now)
    c.wanted-due.ensures (omega arith) (omega arith) (omega arith) c.put_all.ensures.list
    c.put_list.ensures
