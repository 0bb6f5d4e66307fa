-- The sheet is what stands above the first faulty line, and the list line decides the rest. The check finds the other goals.
use Rattle.list_in.proofs.Answers.{at_line, top_bad, top_sheet}
use Rattle.list_in.proofs.Tops.{refuses, reads}
use Rattle.list_scan.proofs.ListLines.{start_most}
use Rattle.list_scan.specs.ListLines.{line_start_lem}
use Rattle.list_in.specs.Listed.{first_fault_lem, split_at}
use Rattle.sheet_in.specs.Parsed.{parsed}
use Prim.Native.Nat.{ℕ}
use lib.ListN.{take}
use lib.Seq.{length-take-le}
use mathlib.Core.Path.{◌≡◌, refl, sym, ap, ◌∙◌}
use native.Mathlib.Omega.{arith}
use Rattle.list_in.proofs.read_list.Goals as goal

pub slice_bounds-read_sheet-end : goal.slice_bounds-read_sheet-end
slice_bounds-read_sheet-end c =
    let s = c.args.text.now in
    sym (length-take-le _ _ (omega (arith, c.line_start-at.ensures, start_most c.first_fault-line.result s)))

pub returns-in_default : goal.returns-in_default
returns-in_default c =
    let a = c.args in
    let s = a.text.now in
    let at = c.line_start-at.result in
    let l = first_fault_lem (parsed s) in
    let z : at ≡ line_start_lem l s = c.line_start-at.ensures ∙ ap (λ (k : ℕ). line_start_lem k s) c.first_fault-line.ensures in
    at_line (split_at l s) a.table.now a.list.now
    (top_bad s l at z (refuses (take at s) (sym c.in_default.is ∙ c.read_sheet.ensures.0)).is) c.first_fault-line.ensures

pub below-requires : goal.below-requires
below-requires c =
    let s = c.args.text.now in
    let at = c.line_start-at.result in
    let R = reads (take at s) _ refl (sym c.in-Ok.is ∙ c.read_sheet.ensures.0) c.read_sheet.ensures.1 in
    (R.table, omega (arith, c.line_start-at.ensures, start_most c.first_fault-line.result s), omega (arith, R.count, R.most))

pub returns : goal.returns
returns c =
    let a = c.args in
    let s = a.text.now in
    let at = c.line_start-at.result in
    let l = first_fault_lem (parsed s) in
    let z : at ≡ line_start_lem l s = c.line_start-at.ensures ∙ ap (λ (k : ℕ). line_start_lem k s) c.first_fault-line.ensures in
    let R = reads (take at s) _ refl (sym c.in-Ok.is
    ∙ c.read_sheet.ensures.0) c.read_sheet.ensures.1 in
    rw (top_sheet s l at z R.is) c.below.ensures
