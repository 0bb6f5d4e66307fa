-- A text is accepted exactly if it is the sheet of a sound table and then the line of a list of 0 and 1, and then with that table's words and that list.
use mathlib.Core.Path.{◌≡◌, refl, sym, ap, ap₂, ◌∙◌, subst}
use mathlib.Core.Option.{Option, none, some}
use mathlib.Core.List.{List, ◌++◌}
use Prim.Native.Nat.{ℕ, ◌+◌, ◌≤◌, ◌<◌}
use native.Mathlib.Omega.{arith}
use lib.ListN.{length, take, drop, take-append-drop}
use lib.Seq.{sets, take-append_seam, drop-append_seam}
use lib.Dec.{eqb}
use borrow.Author.Tests.{le-leb, eq-eqb, eqb-true}
use Rattle.lists.specs.Firsts.{unless}
use Rattle.lists.proofs.Firsts.{unless_none, then_none}
use Rattle.refusal.specs.declared.Refusal.{Refusal}
use Rattle.clause.specs.declared.Hard.{Hard}
use Rattle.clause.specs.declared.Hard.TheVariants.{Standard, Regular}
use Rattle.clause.specs.declared.Side.{Side}
use Rattle.clause.specs.declared.Side.TheVariants.{Direct, Support, First, Literals, Score}
use Rattle.clause.specs.Encodings.{picked_of}
use Rattle.clause.specs.Numbers.{variables}
use Rattle.table.specs.Table.{Table, words_of, Sound}
use Rattle.table.specs.Words.{table_of}
use Rattle.table.proofs.Words.{accepted_fine}
use Rattle.table.proofs.Round.{sound_accepted}
use Rattle.sheet.specs.Keys.{hard_number, side_number}
use Rattle.sheet.specs.Sheet.{sheet_text}
use Rattle.sheet_in.specs.Parsed as sheets
use Rattle.sheet_in.specs.Parsed.{Parsed, sheet, parsed}
use Rattle.sheet_exact.proofs.Round.{written_read, more_read, read_written}
use Rattle.list_scan.specs.declared.ListLine.{ListLine}
use Rattle.list_scan.specs.declared.ListLine.TheVariants.{Entries, Bad, More}
use Rattle.list_scan.specs.ListLines.{list_text, line_found, line_start_lem}
use Rattle.list_entries.specs.Entries.{entries_of}
use Rattle.list_scan.proofs.ListLines.{entries_were}
use Rattle.list_scan.proofs.Written.{Bits, written_found, written_taken, entries_bits, found_written}
use Rattle.list_store.specs.declared.ReadList.{ReadList}
use Rattle.refusal.specs.Refusals.{result_of}
use Rattle.list_store.specs.Listed.{Listed, listed, faulty}
use Rattle.list_store.specs.Answers.{wanted, fault, list_given, read_of, table_after, list_after}
use Rattle.list_in.specs.Listed.{on_line, on_top, first_fault_lem, split_at, over}
use Rattle.list_in.proofs.LineCount.{sheet_ends}

-- ---- what is written is read

some_text : (l : List ℕ) → 0 < length (list_text l)
unfolding list_text
some_text l = omega arith

split_at_lem : (l : ℕ) (top rest : List ℕ) → line_start_lem l (top ++ rest) ≡ length top → split_at l (top ++ rest) ≡ on_top (parsed top) l rest
unfolding split_at
split_at_lem l top rest z = rw (z, take-append_seam top rest, drop-append_seam top rest)

on_list : (h d : ℕ) (ws l : List ℕ) (k : ℕ) → Bits l → on_top (sheet h d ws) k (list_text l) ≡ listed h d ws l
unfolding on_top on_line
on_list h d ws l k B = rw (written_found l B) (ap (listed h d ws) (written_taken l B))

pub written_read_back : (h : Hard) (d : Side) (t : Table) (l : List ℕ) → Sound t → Bits l
    → over (sheet_text h d t ++ list_text l) ≡ listed (hard_number h) (side_number d) (words_of t) l
written_read_back h d t l S B =
    let top = sheet_text h d t in
    let k = length (words_of t) + 3 in
    let first : first_fault_lem (parsed (top ++ list_text l)) ≡ k = rw (more_read h d t (list_text l) S (some_text l)) in
    ap (λ (n : ℕ). split_at n (top ++ list_text l)) first
    ∙ split_at_lem k top (list_text l) (sheet_ends h d t (list_text l))
    ∙ ap (λ (p : Parsed). on_top p k (list_text l)) (written_read h d t S)
    ∙ on_list (hard_number h) (side_number d) (words_of t) l k B

-- ---- what is read was written

pub record WasListed (s : List ℕ) (h d : ℕ) (ws l : List ℕ) : Type 0 where
  pub hard : Hard
  pub side : Side
  pub table : Table
  pub hard_number_lem : h ≡ hard_number hard
  pub side_number_lem : d ≡ side_number side
  pub words : ws ≡ words_of table
  pub sound : Sound table
  pub bits : Bits l
  pub text : s ≡ sheet_text hard side table ++ list_text l

never : {X : Type 0} {k h d : ℕ} {ws l : List ℕ} → faulty k ≡ listed h d ws l → X
never e = absurd (let o : ◌≡◌ {A = ℕ} 0 1 = cc in omega arith)

module _ (top rest : List ℕ) {h d : ℕ} {ws l : List ℕ} where
  line_was : (h' d' : ℕ) (ws' : List ℕ) (x : ListLine) → parsed top ≡ sheet h' d' ws' → line_found rest ≡ x → on_line x h' d' ws' rest ≡ listed h d ws l
      → WasListed (top ++ rest) h d ws l
  unfolding on_line
  line_was h' d' ws' Bad p q e = never e
  line_was h' d' ws' More p q e = never e
  line_was h' d' ws' (Entries m) p q e =
      let R = read_written top h' d' ws' p in
      let list : entries_of (take m (drop 5 rest)) ≡ l = cc in
      let x : h ≡ h' = cc in
      let y : d ≡ d' = cc in
      let z : ws ≡ ws' = cc in
      record {
        hard = R.hard;
        side = R.side;
        table = R.table;
        hard_number_lem = x ∙ R.hard_number_lem;
        side_number_lem = y ∙ R.side_number_lem;
        words = z ∙ R.words;
        sound = R.sound;
        bits = rw (← list) (entries_bits (take m (drop 5 rest)));
        text = ap₂ ◌++◌ R.text (found_written rest m (entries_were rest m q) ∙ ap list_text list);
      }

  top_was : (k : ℕ) (p : Parsed) → parsed top ≡ p → on_top p k rest ≡ listed h d ws l → WasListed (top ++ rest) h d ws l
  unfolding on_top
  top_was k (sheet h' d' ws') q e = line_was h' d' ws' (line_found rest) q refl e
  top_was k (sheets.faulty n) q e = never e

pub read_was_written : (s : List ℕ) (h d : ℕ) (ws l : List ℕ) → over s ≡ listed h d ws l → WasListed s h d ws l
unfolding split_at
read_was_written s h d ws l e =
    let k = first_fault_lem (parsed s) in
    let i = line_start_lem k s in
    let W = top_was (take i s) (drop i s) k (parsed (take i s)) refl e in
    subst (λ (t : List ℕ). WasListed t h d ws l) (take-append-drop i s) W

-- ---- over the answers and the lent buffers

-- a list of this table has an entry for each variable
choices_known : (h : Hard) (d : Side) (ws : List ℕ) → wanted (hard_number h) (side_number d) ws ≡ variables (table_of ws) h d
unfolding wanted picked_of
choices_known Standard Direct ws = refl
choices_known Standard Support ws = refl
choices_known Standard First ws = refl
choices_known Standard Literals ws = refl
choices_known Standard Score ws = refl
choices_known Regular Direct ws = refl
choices_known Regular Support ws = refl
choices_known Regular First ws = refl
choices_known Regular Literals ws = refl
choices_known Regular Score ws = refl

pub wanted_variables : (h : Hard) (d : Side) (t : Table) → Sound t → wanted (hard_number h) (side_number d) (words_of t) ≡ variables t h d
wanted_variables h d t S =
    choices_known h d (words_of t) ∙ ap (λ (x : Table). variables x h d) (accepted_fine (words_of t) t (sound_accepted t S)).1

module _ (h d : ℕ) (ws l table list : List ℕ) where
  no_fault : length l ≡ wanted h d ws → length l ≤ length list → length ws ≤ length table → fault h d ws l (length table) (length list) ≡ none
  unfolding fault
  no_fault z a b =
      rw (eq-eqb (length l) (wanted h d ws) z, le-leb (length l) (length list) a, le-leb (length ws) (length table) b)

-- The sheet of a sound table with the line of a list of its length, read into buffers with room: the choices, the table's words, the list.
pub list_trip : (h : Hard) (d : Side) (t : Table) (l table list : List ℕ) → Sound t → Bits l → length l ≡ variables t h d
    → length (words_of t) ≤ length table → length l ≤ length list → (x : Listed) → x ≡ over (sheet_text h d t ++ list_text l)
    → (read_of x (length table) (length list) ≡ list_given (hard_number h) (side_number d) (length (words_of t)) (length l))
    × (table_after x table list ≡ sets table 0 (words_of t))
    × (list_after x table list ≡ sets list 0 l)
list_trip h d t l table list S B z roomy long x e =
    let is = e ∙ written_read_back h d t l S B in
    let f = no_fault (hard_number h) (side_number d) (words_of t) l table list (z ∙ sym (wanted_variables h d t S)) long roomy in
    (rw (is, f), rw (is, f), rw (is, f))

-- And nothing else is read: the text was that of a sound table and a list of its length.
pub record ReadWas (s : List ℕ) (h d n m : ℕ) : Type 0 where
  pub words : List ℕ
  pub list : List ℕ
  pub was : WasListed s h d words list
  pub count : length words ≡ n
  pub long : length list ≡ m
  pub due : m ≡ variables was.table was.hard was.side

same_wanted : (h h' d d' : ℕ) (ws ws' : List ℕ) → h ≡ h' → d ≡ d' → ws ≡ ws' → wanted h d ws ≡ wanted h' d' ws'
same_wanted h h' d d' ws ws' p q r = rw (p, q, r)

due_length : (h d : ℕ) (ws l : List ℕ) (tableRoom listRoom : ℕ) → fault h d ws l tableRoom listRoom ≡ none → length l ≡ wanted h d ws
unfolding fault
due_length h d ws l tableRoom listRoom e =
    eqb-true (length l) (wanted h d ws) (unless_none (eqb (length l) (wanted h d ws)) _ (then_none (unless (eqb (length l) (wanted h d ws)) _) _ e).0)

-- what was given, taken apart
same_listed : {h h' d d' n n' m m' : ℕ} → list_given h d n m ≡ list_given h' d' n' m' → (h ≡ h') × (d ≡ d') × (n ≡ n') × (m ≡ m')
same_listed {h} {h'} {d} {d'} {n} {n'} {m} {m'} e =
    let same : ◌≡◌ {A = ReadList} (record { hard = h; side = d; words = n; entries = m }) (record { hard = h'; side = d'; words = n'; entries = m' }) = cc in (
      ap (λ (r : ReadList). r.hard) same,
      ap (λ (r : ReadList). r.side) same,
      ap (λ (r : ReadList). r.words) same,
      ap (λ (r : ReadList). r.entries) same,
    )

pub read_only : (s : List ℕ) (tableRoom listRoom : ℕ) {h d n m : ℕ} → read_of (over s) tableRoom listRoom ≡ list_given h d n m → ReadWas s h d n m
read_only s tableRoom listRoom {h} {d} {n} {m} e = by (over s) refl e
  where
    known : (h' d' : ℕ) (ws l : List ℕ) (o : Option Refusal) → over s ≡ listed h' d' ws l → fault h' d' ws l tableRoom listRoom ≡ o
        → result_of o (record { hard = h'; side = d'; words = length ws; entries = length l }) ≡ list_given h d n m → ReadWas s h d n m
    known h' d' ws l (some f) p q e = absurd (let z : ◌≡◌ {A = ℕ} 0 1 = cc in omega arith)
    known h' d' ws l none p q e =
        let (x, y, count, long) = same_listed e in
        let W = read_was_written s h d ws l (p ∙ ap₂ (λ (a b : ℕ). listed a b ws l) x y) in
        let due : length l ≡ wanted h d ws = due_length h' d' ws l tableRoom listRoom q ∙ same_wanted h' h d' d ws ws x y refl in
        record {
          words = ws;
          list = l;
          was = W;
          count = count;
          long = long;
          due = sym long ∙ due ∙ same_wanted h _ d _ ws _ W.hard_number_lem W.side_number_lem W.words
              ∙ wanted_variables W.hard W.side W.table W.sound;
        }

    by : (x : Listed) → over s ≡ x → read_of x tableRoom listRoom ≡ list_given h d n m → ReadWas s h d n m
    by (faulty l) p e = absurd (let z : ◌≡◌ {A = ℕ} 0 1 = cc in omega arith)
    by (listed h' d' ws l) p e = known h' d' ws l (fault h' d' ws l tableRoom listRoom) p refl e
