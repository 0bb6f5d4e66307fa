-- What the sheet reader says of a text's top: an accepted sheet's words are a table of at most 4930 words, so they fit the local array.
use mathlib.Core.Path.{◌≡◌, refl, sym, ap, ◌∙◌}
use mathlib.Core.Bool.{true}
use mathlib.Core.List.{List, flat_map}
use Prim.Native.Nat.{ℕ, ◌+◌, ◌*◌, ◌≤◌}
use native.Mathlib.Omega.{arith}
use lib.ListN.{length, length-append, take}
use lib.Dec.{leb}
use borrow.Author.Tests.{le-leb}
use Rattle.lists.proofs.Sums.{each_as, sum_most, length_flat}
use Rattle.lists.proofs.Stores.{sets_begins}
use Rattle.refusal.specs.declared.Refusal.{Refusal}
use Rattle.refusal.specs.declared.Refusal.TheVariants.{Line}
use Rattle.refusal.specs.Refusals.{place_of}
use Rattle.table.specs.Table.{Pair, Table, pair_words, words_of, SoundPair, Sound}
use Rattle.table.specs.Words.{accepted, Accepted}
use Rattle.table.proofs.Words.{accepted_fine}
use Rattle.table.proofs.Round.{sound_accepted}
use Rattle.sheet.proofs.Sheets.{size_most}
use Rattle.std.specs.Prelude.{Err}
use Rattle.sheet_in.specs.Parsed.{Parsed, sheet, faulty, parsed, sheet_given, read_of, table_left}
use Rattle.sheet_in.proofs.Was.{same_given}
use Rattle.sheet_exact.proofs.Round.{read_written}
use Rattle.list_in.specs.Listed.{first_fault_lem}

-- ---- the largest table

few_words : (t : Table) (p : Pair) → Sound t → SoundPair t p → length (pair_words p) ≤ 19
few_words t p S q = omega (arith, q.rows, size_most t.sizes p.first S.sizes q.first)

most_words : (t : Table) → Sound t → length (words_of t) ≤ 4930
unfolding words_of
most_words t S =
    let each = each_as (SoundPair t) (λ p. length (pair_words p) ≤ 19) (λ p q. few_words t p S q) t.pairs S.pairs in
    let pairs : length (flat_map pair_words t.pairs) ≤ length t.pairs * 19 = rw length_flat (sum_most (λ p. length (pair_words p)) 19 t.pairs each) in
    simp length-append (omega (arith, pairs, S.count, S.boxes.1))

pub record IsTable (ws : List ℕ) : Type 0 where
  pub table : Accepted ws
  pub most : length ws ≤ 4930

accepted_words : (t : Table) → Sound t → Accepted (words_of t)
accepted_words t S =
    let a = sound_accepted t S in
    a ∙ ap accepted (sym (accepted_fine (words_of t) t a).1)

pub sheet_table : (s : List ℕ) (h d : ℕ) (ws : List ℕ) → parsed s ≡ sheet h d ws → IsTable ws
sheet_table s h d ws e =
    let R = read_written s h d ws e in
    rw R.words (record { table = accepted_words R.table R.sound; most = most_words R.table R.sound })

-- ---- what was answered for 4930 words

-- a refusal is for a line
pub record Refuses (s : List ℕ) (f : Refusal) : Type 0 where
  pub line : ℕ
  pub is : parsed s ≡ faulty line
  pub names : f ≡ Line line

pub refuses : (s : List ℕ) {f : Refusal} → Err f ≡ read_of (parsed s) 4930 → Refuses s f
refuses s {f} e = by (parsed s) refl e
  where
    by : (p : Parsed) → parsed s ≡ p → Err f ≡ read_of p 4930 → Refuses s f
    by (faulty l) q e = record { line = l; is = q; names = cc }
    by (sheet h d ws) q e =
        absurd (let z : ◌≡◌ {A = ℕ} 0 1 = cc (rw (le-leb (length ws) 4930 (sheet_table s h d ws q).most) at e) in omega arith)

-- a sheet was read, and its words stand in the array
pub record Reads (s : List ℕ) (h d n : ℕ) (out : List ℕ) : Type 0 where
  pub is : parsed s ≡ sheet h d (take n out)
  pub table : Accepted (take n out)
  pub count : length (take n out) ≡ n
  pub most : n ≤ 4930

pub reads : (s old : List ℕ) {h d n : ℕ} {out : List ℕ} → length old ≡ 4930 → sheet_given h d n ≡ read_of (parsed s) 4930 → out ≡ table_left (parsed s) old
    → Reads s h d n out
reads s old {h} {d} {n} {out} long e f = by (parsed s) refl e f
  where
    by : (p : Parsed) → parsed s ≡ p → sheet_given h d n ≡ read_of p 4930 → out ≡ table_left p old → Reads s h d n out
    by (faulty l) q e f = absurd (let z : ◌≡◌ {A = ℕ} 0 1 = cc in omega arith)
    by (sheet h' d' ws) q e f =
        let T = sheet_table s h' d' ws q in
        let fit : leb (length ws) 4930 ≡ true = le-leb (length ws) 4930 T.most in
        let e' : sheet_given h d n ≡ sheet_given h' d' (length ws) = rw fit at e in
        let (x, y, z) = same_given (sym e') in
        let kept : take n out ≡ ws = ap (take n) (rw (long, fit) at f) ∙ sets_begins ws old n z (omega (arith, T.most)) in
        record {
          is = rw (kept, ← x, ← y) q;
          table = rw kept T.table;
          count = ap length kept ∙ z;
          most = omega (arith, T.most);
        }

-- ---- the first faulty line

pub fault_line : (s : List ℕ) {f : Refusal} → Refuses s f → place_of f ≡ first_fault_lem (parsed s)
fault_line s R = rw (R.is, R.names)

pub fault_past : (s : List ℕ) {h d n : ℕ} {out : List ℕ} → Reads s h d n out → n + 3 ≡ first_fault_lem (parsed s)
fault_past s R = rw R.is (ap (λ (k : ℕ). k + 3) (sym R.count))
