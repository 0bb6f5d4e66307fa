-- An accepted sheet, read and written, gives its own bytes; an accepted table with its two choices, written and read, gives the same words and choices;
-- and a sheet is accepted exactly if it is the sheet of a sound table. Over the answers and the buffers that the two entry points ensure.
use mathlib.Core.Path.{◌≡◌, refl, sym, ap, ◌∙◌, subst}
use mathlib.Core.Logic.{◌↔◌}
use mathlib.Core.Bool.{Bool, true, false, cond}
use mathlib.Core.List.{List}
use Prim.Native.Nat.{ℕ, ◌≤◌}
use native.Mathlib.Omega.{arith}
use lib.ListN.{length, take}
use lib.Dec.{leb, eqb}
use borrow.Author.Tests.{le-leb, leb-true, eqb-true}
use Rattle.clause.specs.declared.Hard.{Hard}
use Rattle.clause.specs.declared.Hard.TheVariants.{Standard, Regular}
use Rattle.clause.specs.declared.Side.{Side}
use Rattle.clause.specs.declared.Side.TheVariants.{Direct, Support, First, Literals, Score}
use Rattle.clause.specs.declared.Encoding.{Encoding}
use Rattle.clause.specs.Encodings.{hard_of, side_of, both_of, picked_of}
use Rattle.std.specs.Prelude.{Result, Ok, Err}
use Rattle.refusal.specs.declared.Refusal.{Refusal}
use Rattle.lists.proofs.Truth.{test}
use Rattle.table.specs.Table.{Table, words_of, Sound}
use Rattle.table.specs.Words.{Outcome, refused, accepted, judged}
use Rattle.table.proofs.Round.{sound_accepted, accepted_sound, accepted_words}
use Rattle.sheet.specs.Keys.{hard_number, side_number}
use Rattle.sheet.specs.Room.{filled}
use Rattle.sheet.specs.Sheet.{sheet_text}
use Rattle.sheet_out.specs.Written.{Sheet, text, none, of_choices, sheet_of, fits, written_of, text_left}
use Rattle.sheet_in.specs.Parsed.{Parsed, sheet, parsed, sheet_given, read_of, table_left}
use Rattle.sheet_in.proofs.Answers.{taken}
use Rattle.sheet_exact.proofs.Round.{written_read, read_written}
use Rattle.sheet_in.proofs.Was.{read_was}

-- ---- the choices and their numbers

number_known : (h : Hard) (d : Side) → picked_of (hard_number h) (side_number d) ≡ Ok (record { hard = h; side = d })
unfolding picked_of
number_known Standard Direct = refl
number_known Standard Support = refl
number_known Standard First = refl
number_known Standard Literals = refl
number_known Standard Score = refl
number_known Regular Direct = refl
number_known Regular Support = refl
number_known Regular First = refl
number_known Regular Literals = refl
number_known Regular Score = refl

-- the choice that was known has these numbers
abbrev Numbers : ℕ → ℕ → Encoding → Type 0
Numbers h d e = (h ≡ hard_number e.hard) × (d ≡ side_number e.side)

-- by cases on a test of n against a number
step : {A : Type 0} (n k : ℕ) (x y : Result A Refusal) (e : A) (P : Type 0) → (n ≡ k → x ≡ Ok e → P) → (y ≡ Ok e → P) → cond (eqb n k) x y ≡ Ok e → P
step n k x y e P f g q = test (eqb n k) (λ t. f (eqb-true n k t) (rw t at q)) (λ t. g (rw t at q))

hard_known : (h : ℕ) (e : Hard) → hard_of h ≡ Ok e → h ≡ hard_number e
hard_known h e =
    let one : (hard : Hard) → h ≡ hard_number hard → ◌≡◌ {A = Result Hard Refusal} (Ok hard) (Ok e) → h ≡ hard_number e =
    λ hard z k. let same : hard ≡ e = cc in z ∙ ap hard_number same in
    step h 0 _ _ e _ (one Standard) (step h 1 _ _ e _ (one Regular) (λ k. absurd (let o : ◌≡◌ {A = ℕ} 0 1 = cc in omega arith)))

side_known : (d : ℕ) (e : Side) → side_of d ≡ Ok e → d ≡ side_number e
side_known d e =
    let one : (side : Side) → d ≡ side_number side → ◌≡◌ {A = Result Side Refusal} (Ok side) (Ok e) → d ≡ side_number e =
    λ side z k. let same : side ≡ e = cc in z ∙ ap side_number same in
    step d 1 _ _ e _ (one Direct)
    (step d 2 _ _ e _ (one Support)
    (step d 3 _ _ e _ (one First)
    (step d 4 _ _ e _ (one Literals)
    (step d 5 _ _ e _ (one Score)
    (λ k. absurd (let o : ◌≡◌ {A = ℕ} 0 1 = cc in omega arith))))))

known_number : (h d : ℕ) (e : Encoding) → picked_of h d ≡ Ok e → Numbers h d e
unfolding picked_of
known_number h d e q = by (hard_of h) (side_of d) refl refl q
  where
    by : (x : Result Hard Refusal) (y : Result Side Refusal) → hard_of h ≡ x → side_of d ≡ y → both_of x y ≡ Ok e → Numbers h d e
    by (Err f) y p r q = absurd (let o : ◌≡◌ {A = ℕ} 0 1 = cc in omega arith)
    by (Ok a) (Err f) p r q = absurd (let o : ◌≡◌ {A = ℕ} 0 1 = cc in omega arith)
    by (Ok a) (Ok b) p r q =
        let same : record { hard = a; side = b } ≡ e = cc in
        subst (Numbers h d) same (hard_known h a p, side_known d b r)

-- ---- the two trips, over the definitions

was_sheet : {s ws : List ℕ} {h d : ℕ} (hard : Hard) (side : Side) (t : Table) → h ≡ hard_number hard → d ≡ side_number side → ws ≡ words_of t → Sound t
    → s ≡ sheet_text hard side t → sheet_of ws h d ≡ text s
unfolding sheet_of
was_sheet hard side t a b c S e = rw (c, a, b, number_known hard side, sound_accepted t S) (ap text (sym e))

-- An accepted sheet, read and written, gives its own bytes.
pub read_then_written : (s : List ℕ) (h d : ℕ) (ws : List ℕ) → parsed s ≡ sheet h d ws → sheet_of ws h d ≡ text s
read_then_written s h d ws e =
    let R = read_written s h d ws e in
    was_sheet R.hard R.side R.table R.hard_number_lem R.side_number_lem R.words R.sound R.text

record Wrote (ws : List ℕ) (h d : ℕ) (s : List ℕ) : Type 0 where
  encoding : Encoding
  table : Table
  known : picked_of h d ≡ Ok encoding
  accepts : judged ws ≡ accepted table
  is : sheet_text encoding.hard encoding.side table ≡ s

wrote : (ws : List ℕ) (h d : ℕ) (s : List ℕ) → sheet_of ws h d ≡ text s → Wrote ws h d s
unfolding sheet_of
wrote ws h d s e = by (picked_of h d) refl (judged ws) refl e
  where
    by : (p : Result Encoding Refusal) → picked_of h d ≡ p → (o : Outcome) → judged ws ≡ o → of_choices p o ≡ text s → Wrote ws h d s
    by (Ok c) p (accepted t) q e = record { encoding = c; table = t; known = p; accepts = q; is = cc }
    by (Ok c) p (refused f) q e = absurd (let o : ◌≡◌ {A = ℕ} 0 1 = cc in omega arith)
    by (Err f) p o q e = absurd (let o : ◌≡◌ {A = ℕ} 0 1 = cc in omega arith)

same_sheet : {h h' d d' : ℕ} {ws ws' : List ℕ} → h ≡ h' → d ≡ d' → ws' ≡ ws → sheet h' d' ws' ≡ sheet h d ws
same_sheet p q r = rw (p, q, r)

-- An accepted table with its two choices, written and read, gives the same words and choices.
pub written_then_read : (ws : List ℕ) (h d : ℕ) (s : List ℕ) → sheet_of ws h d ≡ text s → parsed s ≡ sheet h d ws
written_then_read ws h d s e =
    let R = wrote ws h d s e in
    let n = known_number h d R.encoding R.known in
    subst (λ (l : List ℕ). parsed l ≡ sheet h d ws) R.is
    (written_read R.encoding.hard R.encoding.side R.table (accepted_sound ws R.table R.accepts)
    ∙ same_sheet n.0 n.1 (accepted_words ws R.table R.accepts))

-- Accepted exactly if it is the sheet of some sound table and choices.
pub record Accepts (s : List ℕ) : Type 0 where
  pub hard : ℕ
  pub side : ℕ
  pub words : List ℕ
  pub reads : parsed s ≡ sheet hard side words

pub record IsSheet (s : List ℕ) : Type 0 where
  pub hard : Hard
  pub side : Side
  pub table : Table
  pub sound : Sound table
  pub text : s ≡ sheet_text hard side table

pub accepted_exactly : (s : List ℕ) → Accepts s ↔ IsSheet s
accepted_exactly s = (
  λ A. let R = read_written s A.hard A.side A.words A.reads in
      record { hard = R.hard; side = R.side; table = R.table; sound = R.sound; text = R.text },
  λ S. record {
    hard = hard_number S.hard;
    side = side_number S.side;
    words = words_of S.table;
    reads = ap parsed S.text ∙ written_read S.hard S.side S.table S.sound;
  },
)

-- ---- the two trips, over the answers and the lent buffers

kept : (vs o : List ℕ) → length vs ≤ length o → take (length vs) (filled o vs) ≡ vs
kept vs o h = rw (le-leb (length vs) (length o) h) (taken vs o h)

words_left : (p : Parsed) (old ws : List ℕ) {h d n : ℕ} → p ≡ sheet h d ws → length ws ≡ n → length ws ≤ length old → take n (table_left p old) ≡ ws
words_left p old ws e z room = rw (e, ← z) (kept ws old room)

bytes_left : (x : Sheet) (out s : List ℕ) {n : ℕ} → x ≡ text s → length s ≡ n → length s ≤ length out → take n (text_left x out) ≡ s
bytes_left x out s e z room = rw (e, ← z) (kept s out room)

-- Where reading s into a table answers h, d and n, writing that table's first n words with h and d into a text that is long enough gives s.
pub sheet_trip : (s old out : List ℕ) (h d n : ℕ) → read_of (parsed s) (length old) ≡ sheet_given h d n → length s ≤ length out
    → (ws : List ℕ) → ws ≡ take n (table_left (parsed s) old)
    → (written_of (sheet_of ws h d) (length out) ≡ Ok (length s)) × (take (length s) (text_left (sheet_of ws h d) out) ≡ s)
sheet_trip s old out h d n e room ws z =
    let R = read_was (parsed s) (length old) e in
    let same : ws ≡ R.words = z ∙ words_left (parsed s) old R.words R.is R.many R.room in
    let t : sheet_of ws h d ≡ text s = ap (λ (l : List ℕ). sheet_of l h d) same ∙ read_then_written s h d R.words R.is in
    (rw (t, le-leb (length s) (length out) room), bytes_left (sheet_of ws h d) out s t refl room)

record WriteWas (x : Sheet) (long n : ℕ) : Type 0 where
  bytes : List ℕ
  is : x ≡ text bytes
  many : length bytes ≡ n
  room : length bytes ≤ long

write_was : (x : Sheet) (long : ℕ) {n : ℕ} → written_of x long ≡ Ok n → WriteWas x long n
write_was (none f) long e = absurd (let o : ◌≡◌ {A = ℕ} 0 1 = cc in omega arith)
write_was (text s) long {n} e = by (leb (length s) long) refl e
  where
    by : (b : Bool) → leb (length s) long ≡ b → fits b (length s) ≡ Ok n → WriteWas (text s) long n
    by false q e = absurd (let o : ◌≡◌ {A = ℕ} 0 1 = cc in omega arith)
    by true q e = record { bytes = s; is = refl; many = cc; room = leb-true (length s) long q }

-- Where writing ws with h and d answers n, reading the text's first n bytes into a table that is long enough gives h, d and ws.
pub table_trip : (ws out old : List ℕ) (h d n : ℕ) → written_of (sheet_of ws h d) (length out) ≡ Ok n → length ws ≤ length old
    → (s : List ℕ) → s ≡ take n (text_left (sheet_of ws h d) out)
    → (read_of (parsed s) (length old) ≡ sheet_given h d (length ws)) × (take (length ws) (table_left (parsed s) old) ≡ ws)
table_trip ws out old h d n e room s z =
    let R = write_was (sheet_of ws h d) (length out) e in
    let same : s ≡ R.bytes = z ∙ bytes_left (sheet_of ws h d) out R.bytes R.is R.many R.room in
    let p : parsed s ≡ sheet h d ws = ap parsed same ∙ written_then_read ws h d R.bytes R.is in
    (rw (p, le-leb (length ws) (length old) room), words_left (parsed s) old ws p refl room)
