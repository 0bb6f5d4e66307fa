-- A list line is found exactly where a list of 0 and 1 is written to the end of the text, and then with that list.
use Prim.Native.Nat.{ℕ, zero, suc, ◌+◌, ◌≤◌}
use native.Mathlib.Omega.{arith}
use mathlib.Core.Bool.{true, ◌&&◌}
use mathlib.Core.Path.{◌≡◌, refl, sym, ap, ap₂, ◌∙◌}
use mathlib.Core.List.{List, [], ◌∷◌, ◌++◌}
use lib.ListN.{length, length-append, length-drop, take, drop, take-append-drop}
use lib.Seq.{take-append_seam, drop-append_seam}
use lib.Dec.{leb, eqb}
use borrow.Author.Tests.{le-leb, leb-true, eqb-true, eqb-false}
use Rattle.lists.specs.Lists.{Each}
use Rattle.lists.proofs.Truth.{test, and_left, and_right}
use Rattle.scan.specs.Stands.{begins}
use Rattle.scan.proofs.Places.{begins_append, begins_split}
use Rattle.list_scan.specs.declared.ListLine.TheVariants.{Entries}
use Rattle.list_scan.specs.ListLines.{list_key, characters_of, list_text, bit_count_lem, entries_found, line_found}
use Rattle.list_entries.specs.Entries.{entry_of_lem, entries_of}
use Rattle.list_scan.proofs.ListLines.{EntriesWere}

abbrev pub Bits : List ℕ → Type 0
Bits l = Each (λ b. b ≤ 1) l

-- ---- what is written is found

written_count : (l rest : List ℕ) → Bits l → bit_count_lem (characters_of l ++ (10 ∷ rest)) ≡ length l
unfolding bit_count_lem characters_of
written_count [] rest e = refl
written_count (b ∷ l) rest (h, e) = simp (le-leb 48 (48 + b) (omega arith), le-leb (48 + b) 49 (omega arith)) (ap suc (written_count l rest e))

pub written_entries : (l : List ℕ) → Bits l → entries_of (characters_of l) ≡ l
unfolding entries_of characters_of
written_entries [] e = refl
written_entries (zero ∷ l) (h, e) = ap (λ (k : List ℕ). 0 ∷ k) (written_entries l e)
written_entries (suc zero ∷ l) (h, e) = ap (λ (k : List ℕ). 1 ∷ k) (written_entries l e)
written_entries (suc (suc b) ∷ l) (h, e) = absurd (omega arith)

length_characters : (l : List ℕ) → length (characters_of l) ≡ length l
unfolding characters_of
length_characters [] = refl
length_characters (b ∷ l) = ap suc (length_characters l)

past_key : (l : List ℕ) → drop 5 (list_text l) ≡ characters_of l ++ (10 ∷ [])
unfolding list_text
past_key l = refl

begins_key : (l : List ℕ) → begins list_key (list_text l) ≡ true
unfolding list_text
begins_key l = begins_append list_key (characters_of l ++ (10 ∷ []))

pub written_found : (l : List ℕ) → Bits l → line_found (list_text l) ≡ Entries (length l)
unfolding line_found entries_found
written_found l e =
    let t = characters_of l ++ (10 ∷ []) in
    let key : begins list_key (list_text l) ≡ true = begins_key l in
    let feed : drop (length l) t ≡ 10 ∷ [] = rw (← length_characters l) (drop-append_seam (characters_of l) (10 ∷ [])) in
    let all : leb (length t) (length l + 1) ≡ true = le-leb (length t) (length l + 1)
    (omega (arith, length-append (characters_of l) (10 ∷ []), length_characters l)) in
    rw (key, past_key l, written_count l [] e, feed, begins_append (10 ∷ []) [], all)

pub written_taken : (l : List ℕ) → Bits l → entries_of (take (length l) (drop 5 (list_text l))) ≡ l
written_taken l e =
    let seam : take (length l) (characters_of l ++ (10 ∷ [])) ≡ characters_of l =
    rw (← length_characters l) (take-append_seam (characters_of l) (10 ∷ [])) in
    rw (past_key l, seam) (written_entries l e)

-- ---- what is found was written

pub entries_bits : (r : List ℕ) → Bits (entries_of r)
unfolding entries_of
entries_bits [] = tt
entries_bits (c ∷ r) = (test (eqb c 49) (λ t. rw t (omega arith)) (λ t. rw t (omega arith)), entries_bits r)

back_one : (c : ℕ) → 48 ≤ c → c ≤ 49 → 48 + entry_of_lem c ≡ c
back_one c l h = test (eqb c 49) (λ t. rw t (sym (eqb-true c 49 t))) (λ t. rw t (omega (arith, eqb-false c 49 t)))

found_characters : (q : List ℕ) → characters_of (entries_of (take (bit_count_lem q) q)) ≡ take (bit_count_lem q) q
unfolding bit_count_lem characters_of entries_of
found_characters [] = refl
found_characters (c ∷ q) =
    test (leb 48 c && leb c 49)
    (λ t.
    rw t
    (ap₂ (λ (a : ℕ) (k : List ℕ). a ∷ k) (back_one c (leb-true 48 c (and_left (leb 48 c) (leb c 49) t)) (leb-true c 49 (and_right (leb 48 c) (leb c 49) t)))
    (found_characters q)))
    (λ t. rw t)

one_feed : (t : List ℕ) → begins (10 ∷ []) t ≡ true → length t ≤ 1 → t ≡ 10 ∷ []
one_feed t e h =
    let split = begins_split (10 ∷ []) t e in
    let none : drop 1 t ≡ [] = nothing (drop 1 t) (omega (arith, ap length split)) in
    split ∙ ap (λ (k : List ℕ). 10 ∷ k) none
  where
    nothing : (k : List ℕ) → length k ≤ 0 → k ≡ []
    nothing [] h = refl
    nothing (x ∷ k) h = absurd (omega arith)

pub found_written : (r : List ℕ) (m : ℕ) → EntriesWere r m → r ≡ list_text (entries_of (take m (drop 5 r)))
unfolding list_text
found_written r m W =
    let q = drop 5 r in
    let cut = take-append-drop m q in
    let rest : drop m q ≡ 10 ∷ [] = one_feed (drop m q) W.feed (omega (arith, W.all, length-drop m q)) in
    begins_split list_key r W.key
    ∙ ap (λ (k : List ℕ). list_key ++ k)
    (sym cut ∙ ap₂ ◌++◌ (rw (← W.count) at (sym (found_characters q))) rest)
