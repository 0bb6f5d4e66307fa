-- Reading and storing step by step: what is stored in two goes is stored as one, what a loop has still to read gives what the whole gives,
-- and no step goes past the end of the text or gives more words than bytes.
use mathlib.Core.Path.{◌≡◌, refl, sym, ap, ◌∙◌}
use mathlib.Core.List.{List, [], ◌∷◌, ◌++◌}
use Prim.Native.Nat.{ℕ, zero, suc, ◌+◌, ◌-◌, ◌≤◌, ◌<◌}
use native.Mathlib.Nat.{add-zero, add_assoc, sub-zero}
use native.Mathlib.Omega.{arith}
use lib.ListN.{length, length-append, set}
use lib.Seq.{sets, length-sets}
use Rattle.lists.specs.Stores.{Wrote}
use Rattle.lists.proofs.Stores.{sets_append}
use Rattle.std.specs.Prelude.{Some, None, Ok, Err, ok_or}
use Rattle.scan.specs.Lines.{Line}
use Rattle.sheet_parts.specs.Reading.{Got, read, fault, words, after, next, on_line, one, many, Step, step_of, Filed}

-- ---- an answer, taken apart and put together

pub same_step : {i k w u : ℕ} → ◌≡◌ {A = Step} (Ok (i, w)) (Ok (k, u)) → (i ≡ k) × (w ≡ u)
same_step {i} {k} {w} {u} e =
    let both : ◌≡◌ {A = ℕ × ℕ} (i, w) (k, u) = cc in
    (ap (λ (z : ℕ × ℕ). z.0) both, ap (λ (z : ℕ × ℕ). z.1) both)

step_at : (i : ℕ) {w u : ℕ} → w ≡ u → ◌≡◌ {A = Step} (Ok (i, w)) (Ok (i, u))
step_at i e = ap (λ (w : ℕ). Ok (i, w)) e

after_step : (from : ℕ) (ws : List ℕ) (g : Got) → step_of (from + length ws) g ≡ step_of from (after ws g)
unfolding after
after_step from ws (read vs k) = step_at k (rw length-append (add_assoc from (length ws) (length vs)))
after_step from ws (fault vs) = ap Err (rw length-append (add_assoc from (length ws) (length vs)))

after_words : (ws : List ℕ) (g : Got) → words (after ws g) ≡ ws ++ words g
unfolding after
after_words ws (read vs k) = refl
after_words ws (fault vs) = refl

-- ---- stores

-- words ws are stored, and then what g reads
filed_after : (ws : List ℕ) (g : Got) {from : ℕ} {old mid new : List ℕ} {r : Step}
    → mid ≡ sets old from ws → Filed g (from + length ws) mid r new → Filed (after ws g) from old r new
filed_after ws g {from} {old} m p =
    record {
      step = p.step ∙ after_step from ws g;
      list = p.list ∙ rw (m, after_words ws g) (sym (sets_append ws (words g) old from));
    }

pub filed_done : (i from : ℕ) (old : List ℕ) → Filed (read [] i) from old (Ok (i, from)) old
filed_done i from old = record { step = step_at i (sym (add-zero from)); list = refl }

pub filed_fault : (x : Line) (f : ℕ → ℕ → Got) {from u : ℕ} {old : List ℕ} → Err u ≡ ok_or x from → Filed (on_line x f) from old (Err u) old
unfolding on_line
filed_fault None f {from} {u} e = let same : u ≡ from = cc in record { step = ap Err (same ∙ sym (add-zero from)); list = refl }
filed_fault (Some (v, k)) f e = absurd (let o : ◌≡◌ {A = ℕ} 0 1 = cc in omega arith)

pub filed_line : (x : Line) (f : ℕ → ℕ → Got) {v k from : ℕ} {old mid new : List ℕ} {r : Step}
    → x ≡ Some (v, k) → mid ≡ set old from v → Filed (f v k) (from + 1) mid r new → Filed (on_line x f) from old r new
unfolding on_line
filed_line x f {v} {k} e m p = rw e (filed_after (v ∷ []) (f v k) m p)

pub filed_next : (g : Got) (f : ℕ → Got) {from k w : ℕ} {old mid new : List ℕ} {r : Step}
    → Filed g from old (Ok (k, w)) mid → Filed (f k) w mid r new → Filed (next g f) from old r new
unfolding next
filed_next (read ws j) f {from} {k} {w} {old} {mid} {new} {r} p q =
    let (same, place) = same_step p.step in
    filed_after ws (f j) p.list (rw (← same, ← place) q)
filed_next (fault ws) f p q = absurd (let o : ◌≡◌ {A = ℕ} 0 1 = cc p.step in omega arith)

pub filed_bad : (g : Got) (f : ℕ → Got) {from w : ℕ} {old new : List ℕ} → Filed g from old (Err w) new → Filed (next g f) from old (Err w) new
unfolding next
filed_bad (read ws j) f p = absurd (let o : ◌≡◌ {A = ℕ} 0 1 = cc p.step in omega arith)
filed_bad (fault ws) f p = p

pub filed_long : {g : Got} {from : ℕ} {old new : List ℕ} {r : Step} → Filed g from old r new → length new ≡ length old
filed_long {g} {from} {old} p = ap length p.list ∙ length-sets old from (words g)

-- ---- pace: from index i of a text of n bytes on

abbrev pub Paced : ℕ → ℕ → Got → Type 0
Paced n i (read ws k) = (i + length ws ≤ k) × (k ≤ n)
Paced n i (fault ws) = i + length ws ≤ n

-- a line moves the place, and not past the end
abbrev pub Moves : ℕ → (ℕ → Line) → Type 0
Moves n f = (v i k : ℕ) → f i ≡ Some (v, k) → (i < k) × (k ≤ n)

paced_after : (n i j : ℕ) (ws : List ℕ) (g : Got) → i + length ws ≤ j → Paced n j g → Paced n i (after ws g)
unfolding after
paced_after n i j ws (read vs k) h p = rw length-append (omega arith, omega arith)
paced_after n i j ws (fault vs) h p = rw length-append (omega arith)

pub paced_line : (n i : ℕ) (x : Line) (f : ℕ → ℕ → Got) → i ≤ n → ((v k : ℕ) → x ≡ Some (v, k) → (i < k) × (k ≤ n))
    → ((v k : ℕ) → x ≡ Some (v, k) → k ≤ n → Paced n k (f v k)) → Paced n i (on_line x f)
unfolding on_line
paced_line n i (Some (v, k)) f h m g = paced_after n i k (v ∷ []) (f v k) (omega (arith, m v k refl)) (g v k refl (m v k refl).1)
paced_line n i None f h m g = omega arith

pub paced_one : (n : ℕ) (f : ℕ → Line) → Moves n f → (i : ℕ) → i ≤ n → Paced n i (one (f i))
unfolding one
paced_one n f m i h = paced_line n i (f i) (λ v k. read [] k) h (λ v k e. m v i k e) (λ v k e g. (omega arith, g))

pub paced_next : (n i : ℕ) (g : Got) (f : ℕ → Got) → Paced n i g → ((k : ℕ) → k ≤ n → Paced n k (f k)) → Paced n i (next g f)
unfolding next
paced_next n i (read ws k) f p q = paced_after n i k ws (f k) p.0 (q k p.1)
paced_next n i (fault ws) f p q = p

pub paced_many : (n : ℕ) (f : ℕ → Got) → ((i : ℕ) → i ≤ n → Paced n i (f i)) → (m i : ℕ) → i ≤ n → Paced n i (many f m i)
unfolding many
paced_many n f p zero i h = (omega arith, h)
paced_many n f p (suc m) i h = paced_next n i (f i) (many f m) (p i h) (λ k l. paced_many n f p m k l)

-- ---- a loop: k of n are read, at index i and word w by now

pub record Rest (s : List ℕ) (f : ℕ → Got) (n from first : ℕ) (old out : List ℕ) (k i w : ℕ) : Type 0 where
  pub goes : (r : Step) (new : List ℕ) → Filed (many f (n - k) i) w out r new → Filed (many f n from) first old r new
  pub long : length out ≡ length old
  pub some : k ≤ n
  pub pace : w ≤ i
  pub inside : i ≤ length s

pub rest_all : {s : List ℕ} {f : ℕ → Got} {n from first : ℕ} {old : List ℕ} → first ≤ from → from ≤ length s → Rest s f n from first old old 0 from first
rest_all h l = record { goes = λ r new p. rw sub-zero at p; long = refl; some = omega arith; pace = h; inside = l }

module _ {s : List ℕ} {f : ℕ → Got} {n from first : ℕ} {old out : List ℕ} {k i w : ℕ} (R : Rest s f n from first old out k i w) where
  pub rest_done : {u : ℕ} → n - k ≡ 0 → w ≡ u → Filed (many f n from) first old (Ok (i, u)) out
  unfolding many
  rest_done {u} e z = rw (← z) (R.goes (Ok (i, w)) out (rw e (filed_done i w out)))

  -- what is to be shown of a turn: it was read
  pub rest_next : {j u : ℕ} {mid : List ℕ} → k < n → Filed (f i) w out (Ok (j, u)) mid → u ≤ j → j ≤ length s → Rest s f n from first old mid (k + 1) j u
  unfolding many
  rest_next {j} {u} {mid} h p l b =
      let e : n - k ≡ suc (n - (k + 1)) = omega arith in
      record {
        goes = λ r new q. R.goes r new (rw e (filed_next (f i) (many f (n - (k + 1))) p q));
        long = filed_long p ∙ R.long;
        some = omega arith;
        pace = l;
        inside = b;
      }

  -- or it met a faulty line
  pub rest_bad : {u : ℕ} {mid : List ℕ} → k < n → Filed (f i) w out (Err u) mid → Filed (many f n from) first old (Err u) mid
  unfolding many
  rest_bad {u} {mid} h p =
      let e : n - k ≡ suc (n - (k + 1)) = omega arith in
      R.goes (Err u) mid (rw e (filed_bad (f i) (many f (n - (k + 1))) p))

-- one line, read and stored
pub filed_one : (x : Line) {v k w : ℕ} {out mid : List ℕ} → x ≡ Some (v, k) → mid ≡ set out w v → Filed (one x) w out (Ok (k, w + 1)) mid
unfolding one
filed_one x {v} {k} {w} {out} {mid} e m = filed_line x (λ v k. read [] k) e m (filed_done k (w + 1) mid)

pub bad_one : (x : Line) {w u : ℕ} {out : List ℕ} → Err u ≡ ok_or x w → Filed (one x) w out (Err u) out
unfolding one
bad_one x e = filed_fault x (λ v k. read [] k) e

-- ---- the two cursors stay apart as they were

pub paced_filed : (g : Got) {n i w j u : ℕ} {old new : List ℕ} (d : ℕ) → Paced n i g → w + d ≤ i → Filed g w old (Ok (j, u)) new → (u + d ≤ j) × (j ≤ n)
paced_filed (read ws k) {n} {i} {w} {j} {u} d p h f =
    let (same, place) = same_step f.step in
    (omega arith, omega arith)
paced_filed (fault ws) d p h f = absurd (let o : ◌≡◌ {A = ℕ} 0 1 = cc f.step in omega arith)

pub paced_bad : (g : Got) {n i w u : ℕ} {old new : List ℕ} (d : ℕ) → Paced n i g → w + d ≤ i → Filed g w old (Err u) new → u + d ≤ n
paced_bad (read ws k) d p h f = absurd (let o : ◌≡◌ {A = ℕ} 0 1 = cc f.step in omega arith)
paced_bad (fault ws) {n} {i} {w} {u} d p h f = let place : u ≡ w + length ws = cc f.step in omega arith

-- ---- what is stored: the counts, the sizes, the pairs

pub all_words : (g : Got) (n p : ℕ) (sizes old : List ℕ) {one two three new : List ℕ} {w : ℕ} {r : Step} → one ≡ set old 0 n → two ≡ set one 1 p
    → Wrote two 2 sizes w three → Filed g w three r new → new ≡ sets old 0 (n ∷ p ∷ (sizes ++ words g))
all_words g n p sizes old a b c f =
    f.list ∙ rw (c.list, c.next, b, a) (sym (sets_append sizes (words g) (set (set old 0 n) 1 p) 2))
