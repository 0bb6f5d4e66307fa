-- A table and its words determine each other: from the first word of each part on stand the part's words, and then those of the parts after it.
use mathlib.Core.Path.{◌≡◌, refl, sym, ap, ap₂, ◌∙◌, subst}
use mathlib.Core.Logic.{◌≢◌}
use mathlib.Core.Option.{Option, none}
use mathlib.Core.List.{List, [], ◌∷◌, ◌++◌, flat_map}
use Prim.Native.Nat.{ℕ, zero, suc, ◌+◌, ◌-◌, ◌^◌, ◌≤◌, ◌<◌}
use native.Mathlib.Nat.{add-zero}
use native.Mathlib.Omega.{arith}
use lib.ListN.{length, get_or, take, drop, length-drop, drop_of_length-le}
use lib.Seq.{drop-cons, take-append_seam}
use borrow.Author.Tests.{lt-ltb, le-leb, ne_eqb}
use Rattle.lists.specs.Lists.{Each}
use Rattle.lists.specs.Firsts.{first_of}
use Rattle.refusal.specs.declared.Refusal.{Refusal}
use Rattle.refusal.specs.declared.Refusal.TheVariants.{Count, Domain, Partner, Weight}
use Rattle.table.specs.Table.{Pair, Table, boxes, size, pair_words, words_of, In, SoundPair, Sound}
use Rattle.table.specs.Words.{box_count, pair_count, size_at, pair_next, pairs_end, pair_at, pairs_at, table_of, judged, accepted}
use Rattle.table.specs.Words.{range_fault, mask_fault, size_fault, partners_fault, pair_fault, pairs_fault, body_fault, first_fault_lem}
use Rattle.table.specs.Words.{Accepted, PairStands, Ahead}
use Rattle.table.proofs.Words.{accepted_fine, accepted_parts}
use Rattle.lists.proofs.Lists.{at_each, each_at}
use Rattle.lists.proofs.Bits.{pow_small}
use Rattle.lists.proofs.Firsts.{none_then, each_first}
use Rattle.lists.proofs.Parts.{drop_split, stands_at, stands_after}
use Rattle.table.proofs.Tables.{table_boxes, table_size, table_pairs, table_count, accepted_box, accepted_ahead, mask_count, mask_at}

-- ---- what accepted words mean is sound

module _ (ws : List ℕ) (A : Accepted ws) where
  pair_sound : (at : ℕ) → PairStands ws at → SoundPair (table_of ws) (pair_at ws at)
  unfolding pair_at
  pair_sound at S =
      let one = S.first.number in
      let two = S.second.number in
      let rows = mask_count ws at S in
      record {
        first = rw (table_boxes ws A) one;
        second = rw (table_boxes ws A) two;
        differ = S.differ;
        weight = S.weight;
        rows = rows ∙ sym (table_size ws (get_or ws at 0) one.0 one.1);
        masks =
            at_each (λ mask. mask < 2 ^ size (table_of ws) (get_or ws (at + 1) 0)) 0 (pair_at ws at).masks (λ i h.
            let k : i < size_at ws (get_or ws at 0) = rw rows at h in
            rw (mask_at ws at i k, table_size ws (get_or ws (at + 1) 0) two.0 two.1) (S.masks i k));
      }

  pairs_sound : (k at : ℕ) → Ahead ws k at → Each (SoundPair (table_of ws)) (pairs_at ws k at)
  unfolding pairs_at
  pairs_sound zero at S = tt
  pairs_sound (suc k) at (S, Ss) = (pair_sound at S, pairs_sound k (pair_next ws at) Ss)

  size_sound : (b : ℕ) → In 1 (box_count ws) b → In 1 16 (size (table_of ws) b)
  size_sound b (l, h) = rw (table_size ws b l h) (accepted_box ws b A (l, h)).values

  table_sound : Sound (table_of ws)
  table_sound =
      let p = accepted_parts ws A in
      let n = table_boxes ws A in
      record {
        boxes = rw n p.boxes.range;
        count = rw (table_count ws A) p.pairs.range.1;
        sizes =
            at_each (In 1 16) 0 (table_of ws).sizes (λ i h.
            let z : suc i - 1 ≡ i = omega arith in
            rw z at (size_sound (suc i) (omega arith, rw n at h)));
        pairs = subst (Each (SoundPair (table_of ws))) (sym (table_pairs ws)) (pairs_sound (pair_count ws) (box_count ws + 2) (accepted_ahead ws A));
      }

-- ---- and its words are these

pair_words_lem : (ws : List ℕ) (at : ℕ) → PairStands ws at → drop at ws ≡ pair_words (pair_at ws at) ++ drop (pair_next ws at) ws
unfolding pair_at pair_next
pair_words_lem ws at S =
    let m = size_at ws (get_or ws at 0) in
    let h : at + 3 + m ≤ length ws = S.ends in
    let one : suc at ≡ at + 1 = omega arith in
    let two : suc (at + 1) ≡ at + 2 = omega arith in
    let three : suc (at + 2) ≡ at + 3 = omega arith in
    rw (drop-cons ws at 0 (omega arith), one, drop-cons ws (at + 1) 0 (omega arith), two, drop-cons ws (at + 2) 0 (omega arith), three)
    (ap (λ (l : List ℕ). get_or ws at 0 ∷ get_or ws (at + 1) 0 ∷ get_or ws (at + 2) 0 ∷ l) (drop_split ws (at + 3) m))

-- where nothing stands after the pairs
pairs_words : (ws : List ℕ) (k at : ℕ) → Ahead ws k at → length ws ≤ pairs_end ws k at → drop at ws ≡ flat_map pair_words (pairs_at ws k at)
unfolding pairs_at pairs_end flat_map
pairs_words ws zero at S e = drop_of_length-le ws e
pairs_words ws (suc k) at (S, Ss) e =
    pair_words_lem ws at S ∙ ap (λ (l : List ℕ). pair_words (pair_at ws at) ++ l) (pairs_words ws k (pair_next ws at) Ss e)

table_words : (ws : List ℕ) → Accepted ws → words_of (table_of ws) ≡ ws
unfolding words_of table_of
table_words ws A =
    let p = accepted_parts ws A in
    let n = box_count ws in
    let z : 2 + n ≡ n + 2 = omega arith in
    let pairs = pairs_words ws (pair_count ws) (n + 2) (accepted_ahead ws A) p.ends in
    let body : drop 2 ws ≡ take n (drop 2 ws) ++ flat_map pair_words (table_of ws).pairs = drop_split ws 2 n ∙ rw (z, pairs) in
    let second = drop-cons ws 1 0 p.pairs.inside ∙ ap (λ (l : List ℕ). pair_count ws ∷ l) body in
    rw (table_boxes ws A, table_count ws A) (sym (drop-cons ws 0 0 p.boxes.inside ∙ ap (λ (l : List ℕ). n ∷ l) second))

-- what holds of the table that accepted words mean holds of the table that was accepted
as_accepted : (P : Table → Type 0) (ws : List ℕ) (t : Table) → (Accepted ws → P (table_of ws)) → judged ws ≡ accepted t → P t
as_accepted P ws t f e = let q = (accepted_fine ws t e).1 in subst P q (f (e ∙ ap accepted (sym q)))

pub accepted_sound : (ws : List ℕ) (t : Table) → judged ws ≡ accepted t → Sound t
accepted_sound ws t = as_accepted Sound ws t (table_sound ws)

pub accepted_words : (ws : List ℕ) (t : Table) → judged ws ≡ accepted t → words_of t ≡ ws
accepted_words ws t = as_accepted (λ u. words_of u ≡ ws) ws t (table_words ws)

-- ---- the words of a sound table are accepted

-- the word at `at` is there, and is v
abbrev pub Word : List ℕ → ℕ → ℕ → Type 0
Word ws at v = (at < length ws) × (get_or ws at 0 ≡ v)

pub none_range : (ws : List ℕ) (at low high : ℕ) (f : Refusal) {v : ℕ} → Word ws at v → In low high v → range_fault ws at low high f ≡ none
unfolding range_fault
none_range ws at low high f {v} (h, e) (l, u) = rw (lt-ltb at (length ws) h, e, le-leb low v l, le-leb v high u)

pub none_mask : (ws : List ℕ) (m at : ℕ) {v : ℕ} → Word ws at v → v < 2 ^ m → mask_fault ws m at ≡ none
unfolding mask_fault
none_mask ws m at {v} (h, e) l = rw (lt-ltb at (length ws) h, e, pow_small v m l)

none_partners : (ws : List ℕ) (n at : ℕ) {a b : ℕ} → Word ws at a → Word ws (at + 1) b → In 1 n a → In 1 n b → b ≢ a → partners_fault ws n at ≡ none
unfolding partners_fault
none_partners ws n at {a} {b} one two first second d =
    none_then (none_range ws at 1 n (Partner at) one first)
    (none_then (none_range ws (at + 1) 1 n (Partner (at + 1)) two second) (rw (two.1, one.1, ne_eqb b a d)))

-- a run of words, l, each of them as P asks, where f finds no fault in a word that is as P asks
run_fine : (ws : List ℕ) (f : ℕ → Option Refusal) (P : ℕ → Type 0) (at : ℕ) (l rest : List ℕ)
    → ((i v : ℕ) → Word ws i v → P v → f i ≡ none) → drop at ws ≡ l ++ rest → Each P l → first_of f (λ k. k + 1) (length l) at ≡ none
run_fine ws f P at l rest g e each =
    each_first f (length l) at (λ i h. g (at + i) (get_or l i 0) (stands_at ws at l rest e i 0 h) (each_at P 0 l each i h))

-- the reading finds pair p at word `at` and no fault in it, and after it stands `rest`
record Found (ws : List ℕ) (n at : ℕ) (p : Pair) (rest : List ℕ) : Type 0 where
  fine : pair_fault ws n at ≡ none
  is : pair_at ws at ≡ p
  after : drop (pair_next ws at) ws ≡ rest

-- the same of pairs after which nothing stands
record AllFound (ws : List ℕ) (n at : ℕ) (ps : List Pair) : Type 0 where
  fine : pairs_fault ws n (length ps) at ≡ none
  are : pairs_at ws (length ps) at ≡ ps
  last : drop (pairs_end ws (length ps) at) ws ≡ []

module _ (t : Table) (ws : List ℕ) (sized : (b : ℕ) → In 1 (boxes t) b → size_at ws b ≡ size t b) where
  pair_found : (p : Pair) (at : ℕ) (rest : List ℕ) → SoundPair t p → drop at ws ≡ pair_words p ++ rest → Found ws (boxes t) at p rest
  unfolding pair_at pair_next pair_fault
  pair_found p at rest S e =
      let n = boxes t in
      let m = size t p.second in
      let word = stands_at ws at (pair_words p) rest e in
      let one : Word ws at p.first = rw add-zero at (word 0 0 (omega arith)) in
      let two : Word ws (at + 1) p.second = word 1 0 (omega arith) in
      let three : Word ws (at + 2) p.weight = word 2 0 (omega arith) in
      let masks = stands_after ws at (p.first ∷ p.second ∷ p.weight ∷ []) (p.masks ++ rest) e in
      let rows : size_at ws (get_or ws at 0) ≡ length p.masks = rw one.1 (sized p.first S.first ∙ sym S.rows) in
      let columns : size_at ws (get_or ws (at + 1) 0) ≡ m = rw two.1 (sized p.second S.second) in
      let each = run_fine ws (mask_fault ws m) (λ mask. mask < 2 ^ m) (at + 3) p.masks rest (λ i v. none_mask ws m i) masks S.masks in
      record {
        fine =
            none_then (none_partners ws n at one two S.first S.second S.differ)
            (none_then (none_range ws (at + 2) 1 1000000 (Weight (at + 2)) three S.weight) (rw (rows, columns) each));
        is = rw (rows, one.1, two.1, three.1, masks, take-append_seam p.masks rest);
        after = rw rows (stands_after ws (at + 3) p.masks rest masks);
      }

  pairs_found : (ps : List Pair) (at : ℕ) → Each (SoundPair t) ps → drop at ws ≡ flat_map pair_words ps → AllFound ws (boxes t) at ps
  unfolding first_of pairs_at pairs_end flat_map
  pairs_found [] at S e = record { fine = refl; are = refl; last = e }
  pairs_found (p ∷ ps) at (S, Ss) e =
      let f = pair_found p at (flat_map pair_words ps) S e in
      let g = pairs_found ps (pair_next ws at) Ss f.after in
      record { fine = none_then f.fine g.fine; are = ap₂ ◌∷◌ f.is g.are; last = g.last }

module _ (t : Table) where
  words_body : drop 2 (words_of t) ≡ t.sizes ++ flat_map pair_words t.pairs
  unfolding words_of
  words_body = refl

  words_size : (b : ℕ) → In 1 (boxes t) b → size_at (words_of t) b ≡ size t b
  words_size b (l, h) =
      let z : b + 1 ≡ 2 + (b - 1) = omega arith in
      rw z (stands_at (words_of t) 2 t.sizes (flat_map pair_words t.pairs) words_body (b - 1) 0 (omega arith)).1

  words_pairs : drop (boxes t + 2) (words_of t) ≡ flat_map pair_words t.pairs
  words_pairs =
      let z : boxes t + 2 ≡ 2 + boxes t = omega arith in
      rw z (stands_after (words_of t) 2 t.sizes (flat_map pair_words t.pairs) words_body)

module _ (t : Table) (S : Sound t) where
  words_found : AllFound (words_of t) (boxes t) (boxes t + 2) t.pairs
  words_found = pairs_found t (words_of t) (words_size t) t.pairs (boxes t + 2) S.pairs (words_pairs t)

  words_fine : first_fault_lem (words_of t) ≡ none
  unfolding first_fault_lem body_fault words_of
  words_fine =
      let ws = words_of t in
      let end = pairs_end ws (length t.pairs) (boxes t + 2) in
      let pairs = flat_map pair_words t.pairs in
      let sizes = run_fine ws (size_fault ws) (In 1 16) 2 t.sizes pairs (λ i v. none_range ws i 1 16 (Domain i)) (words_body t) S.sizes in
      none_then (none_range ws 0 1 64 (Count 0) (omega arith, refl) S.boxes)
      (none_then (none_range ws 1 0 256 (Count 1) (omega arith, refl) (omega arith, S.count))
      (none_then sizes
      (none_then words_found.fine (rw (le-leb (length ws) end (omega (arith, length-drop end ws, ap length words_found.last)))))))

  words_table : table_of (words_of t) ≡ t
  unfolding table_of words_of
  words_table = rw (words_found.are, take-append_seam t.sizes (flat_map pair_words t.pairs))

pub sound_accepted : (t : Table) → Sound t → judged (words_of t) ≡ accepted t
unfolding judged
sound_accepted t S = rw (words_fine t S, words_table t S)
