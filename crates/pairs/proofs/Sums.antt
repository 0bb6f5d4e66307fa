-- What a pair's clauses come to, from the tallies of its ends.
use mathlib.Core.Path.{◌≡◌, refl, sym, ap, ap₂, ◌∙◌}
use mathlib.Core.Bool.{Bool, true, false, cond}
use mathlib.Core.List.{[], ◌∷◌, ◌++◌}
use Prim.Native.Nat.{ℕ, ◌+◌, ◌*◌, ◌≤◌}
use native.Mathlib.Omega.{arith}
use lib.ListN.{length, length-append}
use Rattle.clause.specs.declared.Side.{Side}
use Rattle.clause.specs.declared.Side.TheVariants.{Direct, Support, First, Literals, Score}
use Rattle.clause.specs.Clause.{Lit, plus, minus, literals_in}
use Rattle.clause.specs.Ends.{End, direct_clauses, support_clauses}
use Rattle.clause.specs.Choice.{literals_from}
use Rattle.clause.specs.Soft.{soft_with}
use Rattle.clause.proofs.Lengths.{literals_append, entries_length, direct_literals, support_tail, support_tail_length, Small, soft_room}
use Rattle.hard.specs.declared.Tally.{Tally}
use Rattle.hard.specs.Tallies.{tally_of}
use Rattle.hard.proofs.Tallies.{tally}
use Rattle.choice.specs.declared.EndTally.{EndTally}
use Rattle.choice.specs.Tally.{end_tally, second_by}
use Rattle.choice.proofs.Choice.{literals_picks, score_picks}
use Rattle.pairs.specs.Pairs.{bare_tally, both_tally_lem, chosen_tally_lem, pair_tally_lem}

-- ---- an end

pub end_tally_lem : (e : End) → bare_tally (end_tally e) ≡ tally_of (support_clauses e [])
unfolding end_tally literals_from
end_tally_lem e = refl

pub end_clauses : (e : End) → (end_tally e).clauses ≡ length (support_clauses e [])
unfolding end_tally
end_clauses e = refl

pub end_literals : (e : End) → (end_tally e).literals ≡ literals_in (support_clauses e [])
unfolding end_tally literals_from
end_literals e = refl

-- an end's clauses with their literals are few
pub end_few : (e : End) → Small e → (end_tally e).clauses + (end_tally e).literals ≤ 1024
unfolding soft_with
end_few e S =
    let r = soft_room e e S S [] [] (omega arith) (omega arith) First in
    omega (arith, r.entries, entries_length (support_clauses e []), end_clauses e, end_literals e)

-- ---- the sides

pub direct_few : (e : End) → Small e → length (direct_clauses e) ≤ 256
unfolding soft_with
direct_few e S = (soft_room e e S S [] [] (omega arith) (omega arith) Direct).clauses

pub direct_tally_lem : (e : End) {n : ℕ} → n ≡ length (direct_clauses e) → ◌≡◌ {A = Tally} (record { clauses = n; literals = n * 2 }) (tally_of (direct_clauses e))
direct_tally_lem e p = tally p (ap (λ (k : ℕ). k * 2) p ∙ sym (direct_literals e))

-- the support side from its ends, whichever literals close their clauses, one a clause
both_numbers : (a b : End) (on off : Lit) (x y : EndTally) → x ≡ end_tally a → y ≡ end_tally b
    → ◌≡◌ {A = Tally} (record { clauses = x.clauses + y.clauses; literals = x.literals + y.literals + (x.clauses + y.clauses) })
    (tally_of (support_clauses a (on ∷ []) ++ support_clauses b (off ∷ [])))
both_numbers a b on off x y p q =
    let xc = ap (λ (t : EndTally). t.clauses) p ∙ end_clauses a in
    let yc = ap (λ (t : EndTally). t.clauses) q ∙ end_clauses b in
    let xl = ap (λ (t : EndTally). t.literals) p ∙ end_literals a in
    let yl = ap (λ (t : EndTally). t.literals) q ∙ end_literals b in
    let cs = support_clauses a (on ∷ []) in
    let ds = support_clauses b (off ∷ []) in
    tally (omega (arith, xc, yc, length-append cs ds, support_tail_length a on, support_tail_length b off))
    (omega (arith, xc, yc, xl, yl, literals_append cs ds, support_tail a on, support_tail b off))

pub both_tally_law : (a b : End) (x y : EndTally) → x ≡ end_tally a → y ≡ end_tally b
    → ◌≡◌ {A = Tally} (record { clauses = x.clauses + y.clauses; literals = x.literals + y.literals + (x.clauses + y.clauses) }) (both_tally_lem a b)
unfolding soft_with
both_tally_law a b x y p q = both_numbers a b (plus 0) (minus 0) x y p q

taken : (a b : End) (o : Bool) → bare_tally (cond o (end_tally b) (end_tally a)) ≡ tally_of (support_clauses (cond o b a) [])
taken a b true = end_tally_lem b
taken a b false = end_tally_lem a

pub chosen_tally_law : (s : Bool) (a b : End) (x y : EndTally) (o : Bool) → x ≡ end_tally a → y ≡ end_tally b → o ≡ second_by s x y
    → bare_tally (cond o y x) ≡ chosen_tally_lem s a b
unfolding soft_with
chosen_tally_law true a b x y o p q r =
    rw (p, q, score_picks a b, ← (r ∙ ap₂ (second_by true) p q)) (taken a b o)
chosen_tally_law false a b x y o p q r =
    rw (p, q, literals_picks a b, ← (r ∙ ap₂ (second_by false) p q)) (taken a b o)

-- which literals close the clauses does not matter, one a clause
pub tally_any : (s : Side) (a b : End) (on off : Lit) → tally_of (soft_with s a b (on ∷ []) (off ∷ [])) ≡ pair_tally_lem s a b
unfolding soft_with
tally_any Direct a b on off = refl
tally_any Support a b on off =
    sym (both_numbers a b on off (end_tally a) (end_tally b) refl refl) ∙ both_numbers a b (plus 0) (minus 0) (end_tally a) (end_tally b) refl refl
tally_any First a b on off = refl
tally_any Literals a b on off = refl
tally_any Score a b on off = refl

-- ---- a pair's tally by its side

module _ (a b : End) where
  pub pair_direct : pair_tally_lem Direct a b ≡ tally_of (direct_clauses a)
  unfolding soft_with
  pair_direct = refl

  pub pair_first : pair_tally_lem First a b ≡ tally_of (support_clauses a [])
  unfolding soft_with
  pair_first = refl

  pub pair_literals : pair_tally_lem Literals a b ≡ chosen_tally_lem false a b
  unfolding soft_with
  pair_literals = refl

  pub pair_score : pair_tally_lem Score a b ≡ chosen_tally_lem true a b
  unfolding soft_with
  pair_score = refl

-- what the goals of the function that goes by the side are found with
pub ruleset sides = (end_tally_lem, pair_direct, pair_first, pair_literals, pair_score)
