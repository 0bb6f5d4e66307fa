-- A sheet is accepted exactly if it is the sheet of a sound table, and then with that table's words.
use mathlib.Core.Path.{◌≡◌, refl, sym, ap, ap₂, ◌∙◌, subst}
use mathlib.Core.Bool.{Bool, true, false, cond}
use mathlib.Core.List.{List, ◌∷◌, ◌++◌, flat_map, append-nil}
use Prim.Native.Nat.{ℕ, ◌+◌, ◌≤◌, ◌<◌}
use native.Mathlib.Nat.{zero-add}
use native.Mathlib.Omega.{arith}
use lib.ListN.{length, length-append, drop_of_length-le}
use lib.Seq.{drop-length, drop-append_seam}
use lib.Dec.{leb}
use borrow.Author.Tests.{le-leb, lt-leb, leb-true}
use Rattle.lists.specs.Lists.{Each}
use Rattle.lists.proofs.Sums.{each_as}
use Rattle.clause.specs.declared.Hard.{Hard}
use Rattle.clause.specs.declared.Side.{Side}
use Rattle.table.specs.Table.{Pair, Table, boxes, pair_words, words_of, In, SoundPair, Sound}
use Rattle.text_out.specs.Texts.{line_of}
use Rattle.std.specs.Prelude.{Some, None}
use Rattle.scan.specs.Stands.{Stands}
use Rattle.scan.specs.Lines.{Line, line_at}
use Rattle.scan.proofs.Places.{stands_append, stands_split}
use Rattle.scan.proofs.Lines.{exact_line}
use Rattle.sheet.specs.Keys.{boxes_key, values_key, pairs_key, hard_line_lem, side_line_lem, hard_number, side_number}
use Rattle.sheet.specs.Sheet.{values_text, pair_text, pairs_text, body_text, sheet_text}
use Rattle.sheet_scan.specs.Found.{hard_at, side_at}
use Rattle.sheet_scan.proofs.Choices.{hard_found, side_found, hard_was, side_was}
use Rattle.sheet_parts.specs.Reading.{Got, read, fault, values_at, pairs_at}
use Rattle.sheet_in.specs.Parsed.{Parsed, sheet, faulty, on_word, closed, rest_at, on_sizes, parsed}
use Rattle.sheet_in.proofs.Groups.{many_found, many_were, values_were}
use Rattle.sheet_in.proofs.Answers.{sizes_next}
use Rattle.sheet_exact.proofs.Pairs.{Of, pairs, values_found}

-- ---- what is written is read

among : (t : Table) (p : Pair) → SoundPair t p → SoundPair (Of t.sizes) p
among t p S =
    record { first = S.first; second = S.second; differ = S.differ; weight = S.weight; rows = S.rows; masks = S.masks }

back : (t : Table) (p : Pair) → SoundPair (Of t.sizes) p → SoundPair t p
back t p S =
    record { first = S.first; second = S.second; differ = S.differ; weight = S.weight; rows = S.rows; masks = S.masks }

rest_found : (s : List ℕ) (h d : ℕ) (sizes : List ℕ) (ps : List Pair) (i j k : ℕ) → length ps ≤ 256 → Each (SoundPair (Of sizes)) ps
    → Stands s i (line_of pairs_key (length ps)) j → Stands s j (pairs_text sizes ps) k
    → rest_at s h d sizes i ≡ closed (length s) h d (length ps) sizes (read (flat_map pair_words ps) k)
unfolding rest_at on_word pairs_text
rest_found s h d sizes ps i j k few S a b =
    rw ((exact_line s pairs_key 0 256).found (length ps) i j (omega arith, few) a, many_found (pairs s sizes) ps j k S b)

sizes_found : (s : List ℕ) (h d : ℕ) (sizes : List ℕ) (i j : ℕ) → Each (In 1 16) sizes → Stands s i (values_text sizes) j
    → on_sizes s h d (values_at s (length sizes) i) ≡ rest_at s h d sizes j
unfolding on_sizes
sizes_found s h d sizes i j S a = rw (values_found s sizes i j S a)

-- a sheet that stands at the start of s: what follows it decides
stands_read : (s : List ℕ) (h : Hard) (d : Side) (t : Table) (k : ℕ) → Sound t → Stands s 0 (sheet_text h d t) k
    → parsed s ≡ closed (length s) (hard_number h) (side_number d) (length t.pairs) t.sizes (read (flat_map pair_words t.pairs) k)
unfolding sheet_text body_text
stands_read s h d t k S r =
    let values = values_text t.sizes in
    let count = line_of pairs_key (length t.pairs) in
    let last = pairs_text t.sizes t.pairs in
    let body = line_of boxes_key (boxes t) ++ (values ++ (count ++ last)) in
    let a = stands_split (hard_line_lem h) (side_line_lem d ++ body) r in
    let b = stands_split (side_line_lem d) body a.1 in
    let c = stands_split (line_of boxes_key (boxes t)) (values ++ (count ++ last)) b.1 in
    let v = stands_split values (count ++ last) c.1 in
    let e = stands_split count last v.1 in
    sizes_next s (hard_found s h 0 _ a.0) (side_found s d _ _ b.0) ((exact_line s boxes_key 1 64).found (boxes t) _ _ S.boxes c.0)
    ∙ sizes_found s (hard_number h) (side_number d) t.sizes _ _ S.sizes v.0
    ∙ rest_found s (hard_number h) (side_number d) t.sizes t.pairs _ _ k S.count
    (each_as (SoundPair t) (SoundPair (Of t.sizes)) (among t) t.pairs S.pairs) e.0 e.1

pub written_read : (h : Hard) (d : Side) (t : Table) → Sound t → parsed (sheet_text h d t) ≡ sheet (hard_number h) (side_number d) (words_of t)
unfolding closed words_of
written_read h d t S =
    let s = sheet_text h d t in
    stands_read s h d t (length s) S
    (record { next = sym (zero-add (length s)); there = sym (append-nil s) ∙ ap (λ (l : List ℕ). s ++ l) (sym (drop-length s)) })
    ∙ rw (le-leb (length s) (length s) (omega arith))

-- a sheet with more after it is faulty at the line past its last: a line for each word and two more
pub more_read : (h : Hard) (d : Side) (t : Table) (more : List ℕ) → Sound t → 0 < length more
    → parsed (sheet_text h d t ++ more) ≡ faulty (length (words_of t) + 3)
unfolding closed words_of
more_read h d t more S some =
    let s = sheet_text h d t in
    let all = length-append s more in
    stands_read (s ++ more) h d t (length s) S
    (record { next = sym (zero-add (length s)); there = ap (λ (l : List ℕ). s ++ l) (sym (drop-append_seam s more)) })
    ∙ rw (lt-leb (length (s ++ more)) (length s) (omega arith)) (ap faulty (simp length-append (omega arith)))

-- ---- what is read was written

pub record WasSheet (s : List ℕ) (h d : ℕ) (ws : List ℕ) : Type 0 where
  pub hard : Hard
  pub side : Side
  pub table : Table
  pub hard_number_lem : h ≡ hard_number hard
  pub side_number_lem : d ≡ side_number side
  pub text : s ≡ sheet_text hard side table
  pub words : ws ≡ words_of table
  pub sound : Sound table

never : {X : Type 0} {l h d : ℕ} {ws : List ℕ} → faulty l ≡ sheet h d ws → X
never e = absurd (let o : ◌≡◌ {A = ℕ} 0 1 = cc in omega arith)

record WordWas (x : Line) (f : ℕ → ℕ → Parsed) (p : Parsed) : Type 0 where
  word : ℕ
  place : ℕ
  finds : x ≡ Some (word, place)
  rest : f word place ≡ p

word_was : (x : Line) (l : ℕ) (f : ℕ → ℕ → Parsed) {h d : ℕ} {ws : List ℕ} → on_word x l f ≡ sheet h d ws → WordWas x f (sheet h d ws)
unfolding on_word
word_was (Some (v, k)) l f e = record { word = v; place = k; finds = refl; rest = e }
word_was None l f e = never e

record SizesWere (s : List ℕ) (h d : ℕ) (g : Got) (p : Parsed) : Type 0 where
  sizes : List ℕ
  place : ℕ
  reads : g ≡ read sizes place
  rest : rest_at s h d sizes place ≡ p

sizes_were : (s : List ℕ) (h d : ℕ) (g : Got) {h' d' : ℕ} {ws : List ℕ} → on_sizes s h d g ≡ sheet h' d' ws → SizesWere s h d g (sheet h' d' ws)
unfolding on_sizes
sizes_were s h d (read ms k) e = record { sizes = ms; place = k; reads = refl; rest = e }
sizes_were s h d (fault ms) e = never e

record ClosedWas (long h d p : ℕ) (sizes : List ℕ) (g : Got) (h' d' : ℕ) (ws : List ℕ) : Type 0 where
  more : List ℕ
  place : ℕ
  reads : g ≡ read more place
  all : long ≤ place
  hard : h' ≡ h
  side : d' ≡ d
  words : ws ≡ length sizes ∷ p ∷ (sizes ++ more)

closed_was : (long h d p : ℕ) (sizes : List ℕ) (g : Got) {h' d' : ℕ} {ws : List ℕ} → closed long h d p sizes g ≡ sheet h' d' ws
    → ClosedWas long h d p sizes g h' d' ws
unfolding closed
closed_was long h d p sizes (fault ms) e = never e
closed_was long h d p sizes (read ms k) {h'} {d'} {ws} e = by (leb long k) refl e
  where
    by : (b : Bool) → leb long k ≡ b → cond b (sheet h d (length sizes ∷ p ∷ (sizes ++ ms))) (faulty (length sizes + 5 + length ms)) ≡ sheet h' d' ws
        → ClosedWas long h d p sizes (read ms k) h' d' ws
    by true q e = record { more = ms; place = k; reads = refl; all = leb-true long k q; hard = cc; side = cc; words = cc }
    by false q e = never e

-- a text that stands from the start to the end or past it is the whole
whole : {s t : List ℕ} {k : ℕ} → Stands s 0 t k → length s ≤ k → s ≡ t
whole {s} {t} {k} r h = r.there ∙ ap (λ (l : List ℕ). t ++ l) (drop_of_length-le s h) ∙ append-nil t

pub read_written : (s : List ℕ) (h d : ℕ) (ws : List ℕ) → parsed s ≡ sheet h d ws → WasSheet s h d ws
unfolding parsed rest_at sheet_text body_text values_text pairs_text words_of
read_written s h d ws e =
    let a = word_was (hard_at s 0) 1 _ e in
    let b = word_was (side_at s a.place) 2 _ a.rest in
    let c = word_was (line_at s b.place boxes_key 1 64) 3 _ b.rest in
    let v = sizes_were s a.word b.word (values_at s c.word c.place) c.rest in
    let p = word_was (line_at s v.place pairs_key 0 256) (length v.sizes + 4) _ v.rest in
    let z = closed_was (length s) a.word b.word p.word v.sizes (pairs_at s v.sizes p.word p.place) p.rest in
    let H = hard_was s 0 a.word a.place a.finds in
    let D = side_was s a.place b.word b.place b.finds in
    let n = (exact_line s boxes_key 1 64).was c.word b.place c.place c.finds in
    let M = values_were s c.word c.place v.place v.sizes v.reads in
    let m = (exact_line s pairs_key 0 256).was p.word v.place p.place p.finds in
    let P = many_were (pairs s v.sizes) p.word p.place z.place z.more z.reads in
    was s h d ws H.hard D.side v.sizes P.things
    (z.hard ∙ H.number) (z.side ∙ D.number)
    (z.words ∙ ap₂ (λ (n : ℕ) (l : List ℕ). length v.sizes ∷ n ∷ (v.sizes ++ l)) (sym P.count) P.words)
    (whole
    (stands_append H.stands
    (stands_append D.stands (stands_append (subst (λ (n : ℕ). Stands s b.place (line_of boxes_key n) c.place) (sym M.count) n.1)
    (stands_append M.stands (stands_append (subst (λ (n : ℕ). Stands s v.place (line_of pairs_key n) p.place) (sym P.count) m.1) P.stands)))))
    z.all)
    (omega (arith, M.count, n.0.0), omega (arith, M.count, n.0.1)) (omega (arith, P.count, m.0.1)) M.holds P.holds
  where
    was : (s : List ℕ) (h d : ℕ) (ws : List ℕ) (hard : Hard) (side : Side) (sizes : List ℕ) (ps : List Pair) → h ≡ hard_number hard → d ≡ side_number side
        → ws ≡ length sizes ∷ length ps ∷ (sizes ++ flat_map pair_words ps)
        → s ≡ hard_line_lem hard ++
        (side_line_lem side ++
        (line_of boxes_key (length sizes) ++ (flat_map (line_of values_key) sizes ++ (line_of pairs_key (length ps) ++ flat_map (pair_text sizes) ps))))
        → In 1 64 (length sizes) → length ps ≤ 256 → Each (In 1 16) sizes → Each (SoundPair (Of sizes)) ps → WasSheet s h d ws
    was s h d ws hard side sizes ps x y w t n m M P =
        let table : Table = record { sizes = sizes; pairs = ps } in
        record {
          hard = hard;
          side = side;
          table = table;
          hard_number_lem = x;
          side_number_lem = y;
          text = t;
          words = w;
          sound = record { boxes = n; count = m; sizes = M; pairs = each_as (SoundPair (Of sizes)) (SoundPair table) (λ p S. back table p S) ps P };
        }
