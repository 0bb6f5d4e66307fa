-- Each way that reading a sheet with its list ends, with what is answered and what the two lent buffers then hold.
use mathlib.Core.Path.{◌≡◌, refl}
use mathlib.Core.List.{List}
use Prim.Native.Nat.{ℕ, ◌+◌}
use lib.ListN.{length, take, drop}
use lib.Seq.{drop-drop}
use Rattle.refusal.specs.declared.Refusal.{Refusal}
use Rattle.sheet_in.specs.Parsed as sheets
use Rattle.sheet_in.specs.Parsed.{sheet, parsed}
use Rattle.list_scan.specs.declared.ListLine.TheVariants.{Entries, Bad, More}
use Rattle.list_scan.specs.ListLines.{line_found, line_start_lem}
use Rattle.list_entries.specs.Entries.{entries_of}
use Rattle.std.specs.Prelude.{Err}
use Rattle.list_store.specs.Listed.{Listed, listed, faulty}
use Rattle.list_store.specs.Answers.{Answered}
use Rattle.list_in.specs.Listed.{on_line, on_top, split_at}

pub at_line : (x : Listed) (table list : List ℕ) {l n : ℕ} → x ≡ faulty l → n ≡ l → Answered x table list (Err (Refusal.Line n)) table list
at_line x table list e z = rw (e, z) (record { answer = refl; words = refl; entries = refl })

-- ---- what stands below a sheet at index i of s

module _ (h d : ℕ) (ws s : List ℕ) (i : ℕ) where
  pub below_bad : line_found (drop i s) ≡ Bad → on_top (sheet h d ws) 0 (drop i s) ≡ faulty (length ws + 3)
  unfolding on_top on_line
  below_bad e = rw e

  pub below_more : line_found (drop i s) ≡ More → on_top (sheet h d ws) 0 (drop i s) ≡ faulty (length ws + 4)
  unfolding on_top on_line
  below_more e = rw e

  pub below_list : {m : ℕ} → line_found (drop i s) ≡ Entries m → on_top (sheet h d ws) 0 (drop i s) ≡ listed h d ws (entries_of (take m (drop (i + 5) s)))
  unfolding on_top on_line
  below_list e = rw (e, drop-drop 5 i s)

-- ---- the whole, in two at line l

pub top_bad : (s : List ℕ) (l i : ℕ) {k : ℕ} → i ≡ line_start_lem l s → parsed (take i s) ≡ sheets.faulty k → split_at l s ≡ faulty l
unfolding split_at on_top
top_bad s l i z e = rw (← z, e)

pub top_sheet : (s : List ℕ) (l i : ℕ) {h d : ℕ} {ws : List ℕ} → i ≡ line_start_lem l s → parsed (take i s) ≡ sheet h d ws
    → split_at l s ≡ on_top (sheet h d ws) 0 (drop i s)
unfolding split_at on_top
top_sheet s l i z e = rw (← z, e)
