-- The clauses of a part, put from their entries, are the clauses' lines; and the lines of the whole list are those of its parts.
use mathlib.Core.Path.{◌≡◌, refl, sym, ap, ap₂, ◌∙◌}
use mathlib.Core.List.{List, [], ◌∷◌, ◌++◌, flat_map, append_assoc}
use Prim.Native.Nat.{ℕ, zero, suc, ◌≤◌}
use native.Mathlib.Omega.{arith}
use lib.IntN.{ℤ, pos}
use Rattle.lists.specs.Decimal.{digits, signed}
use Rattle.lists.proofs.Lists.{flat_append}
use Rattle.table.specs.Table.{Table}
use Rattle.clause.specs.declared.Hard.{Hard}
use Rattle.clause.specs.declared.Side.{Side}
use Rattle.clause.specs.Clause.{Lit, plus, minus, coded, Clause, Weighted, weigh, closed, entries_of}
use Rattle.clause.specs.List.{hard_part, soft_part, clauses}
use Rattle.wcnf.specs.Wcnf.{literal_text, clause_line, lines_of, shown, body_text}
use Rattle.wcnf.specs.Entries.{opening, ending, entry_text, entries_from, entries_text}
use Rattle.wcnf.proofs.Named.{number, Named, AllNamed}

-- ---- from the entries

module _ (w : ℕ) where
  -- a literal is not followed by a weight, and ends no line
  opens_none : (l : Lit) → 1 ≤ number l → opening w (coded l) ≡ []
  opens_none (plus zero) h = absurd (omega arith)
  opens_none (plus (suc v)) h = refl
  opens_none (minus zero) h = absurd (omega arith)
  opens_none (minus (suc v)) h = refl

  literal_ends : (l : Lit) → 1 ≤ number l → ending (coded l) ≡ signed (coded l)
  literal_ends (plus zero) h = absurd (omega arith)
  literal_ends (plus (suc v)) h = refl
  literal_ends (minus zero) h = absurd (omega arith)
  literal_ends (minus (suc v)) h = refl

  goes_on : (past : ℤ) → opening w past ≡ [] → (l : Lit) → 1 ≤ number l → entry_text w past (coded l) ≡ literal_text l
  unfolding literal_text
  goes_on past o l h = rw (o, literal_ends l h)

  -- a clause that was begun, and what comes after it
  begun : (past : ℤ) → opening w past ≡ [] → (c : Clause) → Named c → (rest : List ℤ)
      → entries_from w past (closed c ++ rest) ≡ flat_map literal_text c ++ (32 ∷ 48 ∷ 10 ∷ entries_from w (pos 0) rest)
  unfolding flat_map
  begun past o [] n rest = rw o
  begun past o (l ∷ c) n rest =
      ap₂ (λ (a b : List ℕ). a ++ b) (goes_on past o l n.0) (begun (coded l) (opens_none l n.0) c n.1 rest)
      ∙ sym (append_assoc (literal_text l) (flat_map literal_text c) _)

  starts : (c : Clause) (rest : List ℤ) → entries_from w (pos 0) (closed c ++ rest) ≡ digits w ++ entries_from w (pos 1) (closed c ++ rest)
  starts [] rest = append_assoc (digits w) _ _
  starts (l ∷ c) rest = append_assoc (digits w) _ _

  clause_put : (c : Clause) → Named c → (rest : List ℤ) → entries_from w (pos 0) (closed c ++ rest) ≡ clause_line w c ++ entries_from w (pos 0) rest
  unfolding clause_line
  clause_put c n rest =
      starts c rest ∙ ap (λ (l : List ℕ). digits w ++ l) (begun (pos 1) refl c n rest)
      ∙ simp append_assoc

  pub lines_put : (cs : List Clause) → AllNamed cs → entries_text w (entries_of cs) ≡ lines_of w cs
  unfolding entries_text entries_of lines_of flat_map
  lines_put [] n = refl
  lines_put (c ∷ cs) n = clause_put c n.0 (entries_of cs) ∙ ap (λ (l : List ℕ). clause_line w c ++ l) (lines_put cs n.1)

  -- ---- parts

  pub lines_append : (cs ds : List Clause) → lines_of w (cs ++ ds) ≡ lines_of w cs ++ lines_of w ds
  unfolding lines_of
  lines_append cs ds = flat_append (clause_line w) cs ds

  pub lines_none : lines_of w [] ≡ []
  unfolding lines_of flat_map
  lines_none = refl

module _ (t : ℕ) where
  body_weigh : (w : ℕ) (cs : List Clause) → body_text t (weigh w cs) ≡ lines_of (shown t w) cs
  unfolding body_text lines_of flat_map
  body_weigh w [] = refl
  body_weigh w (c ∷ cs) = ap (λ (l : List ℕ). clause_line (shown t w) c ++ l) (body_weigh w cs)

  body_append : (us vs : List Weighted) → body_text t (us ++ vs) ≡ body_text t us ++ body_text t vs
  unfolding body_text
  body_append us vs = flat_append (λ u. clause_line (shown t u.weight) u.lits) us vs

  pub body_part : (w : ℕ) (cs : List Clause) (us : List Weighted) → body_text t (weigh w cs ++ us) ≡ lines_of (shown t w) cs ++ body_text t us
  body_part w cs us = body_append (weigh w cs) us ∙ ap (λ (l : List ℕ). l ++ body_text t us) (body_weigh w cs)

  pub body_none : body_text t [] ≡ []
  unfolding body_text flat_map
  body_none = refl

  -- the hard part shows the top
  pub body_parts : (h : Hard) (s : Side) (a : Table) → body_text t (clauses h s a) ≡ lines_of t (hard_part h a) ++ body_text t (soft_part h s a)
  unfolding clauses
  body_parts h s a = body_part 0 (hard_part h a) (soft_part h s a)
