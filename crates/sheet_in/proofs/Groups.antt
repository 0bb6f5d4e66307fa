-- What is written is read, and what is read was written: of one line, and of many things after each other.
use mathlib.Core.Path.{◌≡◌, refl, sym, ap, ap₂, ◌∙◌, subst}
use mathlib.Core.List.{List, [], ◌∷◌, ◌++◌, flat_map}
use Prim.Native.Nat.{ℕ, zero, suc, ◌+◌}
use native.Mathlib.Nat.{add-zero}
use native.Mathlib.Omega.{arith}
use lib.ListN.{length}
use Rattle.lists.specs.Lists.{Each}
use Rattle.table.specs.Table.{In}
use Rattle.text_out.specs.Texts.{line_of}
use Rattle.std.specs.Prelude.{Some, None}
use Rattle.scan.specs.Lines.{Line}
use Rattle.scan.specs.Stands.{Stands}
use Rattle.scan.proofs.Places.{stands_append, stands_split}
use Rattle.scan.proofs.Lines.{Exact, exact_line}
use Rattle.sheet.specs.Keys.{values_key}
use Rattle.sheet_parts.specs.Reading.{Got, read, fault, after, next, on_line, one, many, values_at}

-- ---- what was read, taken apart

never : {X : Type 0} {ws vs : List ℕ} {k : ℕ} → fault ws ≡ read vs k → X
never e = absurd (let o : ◌≡◌ {A = ℕ} 0 1 = cc in omega arith)

pub record AfterRead (ws : List ℕ) (g : Got) (vs : List ℕ) (k : ℕ) : Type 0 where
  pub more : List ℕ
  pub reads : g ≡ read more k
  pub words : vs ≡ ws ++ more

after_read : (ws : List ℕ) (g : Got) {vs : List ℕ} {k : ℕ} → after ws g ≡ read vs k → AfterRead ws g vs k
unfolding after
after_read ws (read us j) {vs} {k} e =
    let same : j ≡ k = cc in
    record { more = us; reads = ap (read us) same; words = cc }
after_read ws (fault us) e = never e

record NextRead (g : Got) (f : ℕ → Got) (vs : List ℕ) (k : ℕ) : Type 0 where
  first : List ℕ
  place : ℕ
  begins : g ≡ read first place
  rest : AfterRead first (f place) vs k

next_read : (g : Got) (f : ℕ → Got) {vs : List ℕ} {k : ℕ} → next g f ≡ read vs k → NextRead g f vs k
unfolding next
next_read (read ws j) f e = record { first = ws; place = j; begins = refl; rest = after_read ws (f j) e }
next_read (fault ws) f e = never e

pub record LineRead (x : Line) (f : ℕ → ℕ → Got) (vs : List ℕ) (k : ℕ) : Type 0 where
  pub word : ℕ
  pub place : ℕ
  pub finds : x ≡ Some (word, place)
  pub rest : AfterRead (word ∷ []) (f word place) vs k

pub line_read : (x : Line) (f : ℕ → ℕ → Got) {vs : List ℕ} {k : ℕ} → on_line x f ≡ read vs k → LineRead x f vs k
unfolding on_line
line_read (Some (v, j)) f e = record { word = v; place = j; finds = refl; rest = after_read (v ∷ []) (f v j) e }
line_read None f e = never e

-- ---- things that f reads from s, that t writes and w gives the words of, and of which P holds

pub record Was {X : Type 0} (s : List ℕ) (t w : X → List ℕ) (P : X → Type 0) (i k : ℕ) (ws : List ℕ) : Type 0 where
  pub thing : X
  pub holds : P thing
  pub words : ws ≡ w thing
  pub stands : Stands s i (t thing) k

pub record Group {X : Type 0} (s : List ℕ) (f : ℕ → Got) (t w : X → List ℕ) (P : X → Type 0) : Type 0 where
  pub found : (x : X) (i k : ℕ) → P x → Stands s i (t x) k → f i ≡ read (w x) k
  pub was : (i k : ℕ) (ws : List ℕ) → f i ≡ read ws k → Was s t w P i k ws

pub record Were {X : Type 0} (s : List ℕ) (t w : X → List ℕ) (P : X → Type 0) (n i k : ℕ) (ws : List ℕ) : Type 0 where
  pub things : List X
  pub count : length things ≡ n
  pub holds : Each P things
  pub words : ws ≡ flat_map w things
  pub stands : Stands s i (flat_map t things) k

stands_none : (s : List ℕ) (i : ℕ) → Stands s i [] i
stands_none s i = record { next = sym (add-zero i); there = refl }

module _ {X : Type 0} {s : List ℕ} {f : ℕ → Got} {t w : X → List ℕ} {P : X → Type 0} (G : Group s f t w P) where
  pub many_found : (xs : List X) (i k : ℕ) → Each P xs → Stands s i (flat_map t xs) k → many f (length xs) i ≡ read (flat_map w xs) k
  unfolding many flat_map next after
  many_found [] i k h r = ap (read []) (sym (r.next ∙ add-zero i))
  many_found (x ∷ xs) i k h r =
      let p = stands_split (t x) (flat_map t xs) r in
      rw (G.found x i (i + length (t x)) h.0 p.0, many_found xs (i + length (t x)) k h.1 p.1)

  pub many_were : (n i k : ℕ) (ws : List ℕ) → many f n i ≡ read ws k → Were s t w P n i k ws
  unfolding many flat_map
  many_were zero i k ws e =
      let same : i ≡ k = cc in
      record { things = []; count = refl; holds = tt; words = cc; stands = rw (← same) (stands_none s i) }
  many_were (suc n) i k ws e =
      let p = next_read (f i) (many f n) e in
      let x = G.was i p.place p.first p.begins in
      let xs = many_were n p.place k p.rest.more p.rest.reads in
      record {
        things = x.thing ∷ xs.things;
        count = ap suc xs.count;
        holds = (x.holds, xs.holds);
        words = p.rest.words ∙ ap₂ ◌++◌ x.words xs.words;
        stands = stands_append x.stands xs.stands;
      }

-- ---- lines of one word

pub lines : {s : List ℕ} {x : ℕ → Line} {t : ℕ → List ℕ} {P : ℕ → Type 0} → Exact s x t P → Group s (λ i. one (x i)) t (λ v. v ∷ []) P
unfolding one on_line after
lines {s} {x} {t} E =
    record {
      found = λ v i k h r. rw (E.found v i k h r);
      was = λ i k ws e.
          let p = line_read (x i) (λ v k. read [] k) e in
          let same : p.place ≡ k = cc p.rest.reads in
          let none : p.rest.more ≡ [] = cc p.rest.reads in
          let y = E.was p.word i p.place p.finds in
          record {
            thing = p.word;
            holds = y.0;
            words = p.rest.words ∙ ap (λ (l : List ℕ). p.word ∷ l) none;
            stands = subst (Stands s i (t p.word)) same y.1;
          };
    }

flat_one : (vs : List ℕ) → flat_map (λ (v : ℕ). v ∷ []) vs ≡ vs
unfolding flat_map
flat_one [] = refl
flat_one (v ∷ vs) = ap (λ (l : List ℕ). v ∷ l) (flat_one vs)

-- the same of a list of words
pub lines_found : {s : List ℕ} {x : ℕ → Line} {t : ℕ → List ℕ} {P : ℕ → Type 0} → Exact s x t P → (vs : List ℕ) (i k : ℕ) → Each P vs
    → Stands s i (flat_map t vs) k → many (λ i. one (x i)) (length vs) i ≡ read vs k
lines_found E vs i k h r = many_found (lines E) vs i k h r ∙ ap (λ (l : List ℕ). read l k) (flat_one vs)

pub record LinesWere (s : List ℕ) (t : ℕ → List ℕ) (P : ℕ → Type 0) (n i k : ℕ) (ws : List ℕ) : Type 0 where
  pub count : length ws ≡ n
  pub holds : Each P ws
  pub stands : Stands s i (flat_map t ws) k

pub lines_were : {s : List ℕ} {x : ℕ → Line} {t : ℕ → List ℕ} {P : ℕ → Type 0} → Exact s x t P → (n i k : ℕ) (ws : List ℕ)
    → many (λ i. one (x i)) n i ≡ read ws k → LinesWere s t P n i k ws
lines_were E n i k ws e =
    let W = many_were (lines E) n i k ws e in
    let same : ws ≡ W.things = W.words ∙ flat_one W.things in
    rw same (record { count = W.count; holds = W.holds; stands = W.stands })

-- ---- the sheet's lines of sizes

pub values_were : (s : List ℕ) (n i k : ℕ) (ws : List ℕ) → values_at s n i ≡ read ws k → LinesWere s (line_of values_key) (In 1 16) n i k ws
values_were s n i k ws e = lines_were (exact_line s values_key 1 16) n i k ws e
