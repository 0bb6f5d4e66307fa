-- A pair is read as it is written, and so are the sizes.
use mathlib.Core.Path.{◌≡◌, ap, ◌∙◌}
use mathlib.Core.List.{List, [], ◌∷◌, ◌++◌, flat_map}
use Prim.Native.Nat.{ℕ}
use lib.ListN.{length}
use Rattle.lists.specs.Lists.{nth, Each}
use Rattle.table.specs.Table.{Pair, Table, In, pair_words, SoundPair}
use Rattle.text_out.specs.Texts.{line_of, row_of}
use Rattle.scan.specs.Stands.{Stands}
use Rattle.scan.specs.Lines.{line_at}
use Rattle.scan.proofs.Places.{stands_append, stands_split}
use Rattle.scan.proofs.Lines.{exact_line}
use Rattle.row_scan.proofs.Rows.{exact_row}
use Rattle.sheet.specs.Keys.{values_key, first_key, second_key, weight_key, allow_key}
use Rattle.sheet.specs.Sheet.{values_text, rows_text, head_text, pair_text}
use Rattle.sheet_scan.specs.Found.{second_at}
use Rattle.sheet_scan.proofs.Choices.{exact_second}
use Rattle.sheet_parts.specs.Reading.{read, on_line, after, values_at, pair_at}
use Rattle.sheet_in.proofs.Groups.{Was, Group, line_read, lines_found, lines_were}

pub values_found : (s vs : List ℕ) (i k : ℕ) → Each (In 1 16) vs → Stands s i (values_text vs) k → values_at s (length vs) i ≡ read vs k
unfolding values_text
values_found s vs i k h r = lines_found (exact_line s values_key 1 16) vs i k h r

-- ---- a pair among boxes of these sizes

abbrev pub Of : List ℕ → Table
Of sizes = record { sizes = sizes; pairs = [] }

module _ (s sizes : List ℕ) where
  pair_found : (p : Pair) (i k : ℕ) → SoundPair (Of sizes) p → Stands s i (pair_text sizes p) k → pair_at s sizes i ≡ read (pair_words p) k
  unfolding pair_at pair_text head_text rows_text on_line after
  pair_found p i k S r =
      let one = line_of first_key p.first in
      let two = line_of second_key p.second in
      let three = line_of weight_key p.weight in
      let m = nth sizes p.second in
      let h = stands_split (one ++ (two ++ three)) (flat_map (row_of allow_key m) p.masks) r in
      let a = stands_split one (two ++ three) h.0 in
      let b = stands_split two three a.1 in
      let rows = lines_found (exact_row s allow_key m) p.masks _ k S.masks h.1 in
      rw (
        (exact_line s first_key 1 (length sizes)).found p.first i _ S.first a.0,
        (exact_second s (length sizes) p.first).found p.second _ _ (S.second, S.differ) b.0,
        (exact_line s weight_key 1 1000000).found p.weight _ _ S.weight b.1,
        ← S.rows,
        rows,
      )

  pair_was : (i k : ℕ) (ws : List ℕ) → pair_at s sizes i ≡ read ws k → Was s (pair_text sizes) pair_words (SoundPair (Of sizes)) i k ws
  unfolding pair_at pair_text head_text rows_text
  pair_was i k ws e =
      let a = line_read (line_at s i first_key 1 (length sizes)) _ e in
      let b = line_read (second_at s (length sizes) a.word a.place) _ a.rest.reads in
      let c = line_read (line_at s b.place weight_key 1 1000000) _ b.rest.reads in
      let m = nth sizes b.word in
      let one = (exact_line s first_key 1 (length sizes)).was a.word i a.place a.finds in
      let two = (exact_second s (length sizes) a.word).was b.word a.place b.place b.finds in
      let three = (exact_line s weight_key 1 1000000).was c.word b.place c.place c.finds in
      let rows = lines_were (exact_row s allow_key m) (nth sizes a.word) c.place k c.rest.more c.rest.reads in
      record {
        thing = record { first = a.word; second = b.word; weight = c.word; masks = c.rest.more };
        holds = record { first = one.0; second = two.0.0; differ = two.0.1; weight = three.0; rows = rows.count; masks = rows.holds };
        words = a.rest.words ∙ ap (λ (l : List ℕ). a.word ∷ l) (b.rest.words ∙ ap (λ (l : List ℕ). b.word ∷ l) c.rest.words);
        stands = stands_append (stands_append one.1 (stands_append two.1 three.1)) rows.stands;
      }

  pub pairs : Group s (pair_at s sizes) (pair_text sizes) pair_words (SoundPair (Of sizes))
  pairs = record { found = pair_found; was = pair_was }
