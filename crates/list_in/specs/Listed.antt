-- A sheet and one more line, "list=" with its 0 and 1 characters, and nothing after: what such a text holds, or its first faulty line.
-- Read as a sheet alone the text is faulty at its list line, if at none above it; so the sheet is what stands above the first faulty line.
use Rattle.std.specs.Prelude.{ℕ, ◌+◌, List, length, take, drop}
use Rattle.list_scan.specs.declared.ListLine.{ListLine}
use Rattle.list_scan.specs.declared.ListLine.TheVariants.{Entries, Bad, More}
use Rattle.list_scan.specs.ListLines.{line_found, line_start_lem}
use Rattle.list_entries.specs.Entries.{entries_of}
use Rattle.sheet_in.specs.Parsed as sheets
use Rattle.sheet_in.specs.Parsed.{Parsed, sheet, parsed}
use Rattle.list_store.specs.Listed.{Listed, listed, faulty}

-- a sheet has two lines and one for each word: the list line is the next, and what follows that the one after
unfoldable pub on_line : ListLine → ℕ → ℕ → List ℕ → List ℕ → Listed
on_line (Entries m) h d ws r = listed h d ws (entries_of (take m (drop 5 r)))
on_line Bad h d ws r = faulty (length ws + 3)
on_line More h d ws r = faulty (length ws + 4)

-- above line l stands a sheet, and below it r
unfoldable pub on_top : Parsed → ℕ → List ℕ → Listed
on_top (sheet h d ws) l r = on_line (line_found r) h d ws r
on_top (sheets.faulty k) l r = faulty l

-- the first line that is no line of a sheet
abbrev pub first_fault_lem : Parsed → ℕ
first_fault_lem (sheet h d ws) = length ws + 3
first_fault_lem (sheets.faulty l) = l

-- the text in two at line l
unfoldable pub split_at : ℕ → List ℕ → Listed
split_at l s = on_top (parsed (take (line_start_lem l s) s)) l (drop (line_start_lem l s) s)

-- what a text holds
abbrev pub over : List ℕ → Listed
over s = split_at (first_fault_lem (parsed s)) s
