-- What it is that a contract decides the outcome of a call: its answer, and what each lent buffer holds at exit.
use Rattle.std.specs.Prelude.{◌≡◌}
use contract.Lifetimes.{Lfts}
use denote.Triple.Entry.{Args, Res}
use denote.Triple.Clauses.{Ended, AtExit, Lasts, at_exit}

module _ (T : Ended) where
  -- the lifetimes of a function's references, as many as its signature has
  abbrev pub Lives : Type 0
  Lives = Lfts T.signature.lifetimes

  abbrev pub Answer : Lives → Type 0
  Answer κs = Res T.signature κs

  -- what a function ensures: of what it is handed, its answer, and its arguments at exit
  abbrev pub Contract : Type 1
  Contract = (κs : Lives) → Args T.signature κs → Answer κs → AtExit T κs → Type 0

  module _ (κs : Lives) (a : Args T.signature κs) where
    -- the answer, and the last value of each argument that is lent to be written; any other argument stays as it was, and has `tt` here
    abbrev pub Outcome : Type 0
    Outcome = Answer κs × Lasts T κs a

    abbrev pub Permits : Contract → Outcome → Type 0
    Permits Post o = Post κs a o.0 (at_exit T κs a o.1)

-- Whatever a call is handed, two outcomes that the contract permits are equal, the answer by what `see` sees of it. Nothing is asked of the
-- arguments: not what the function requires, nor that a table is accepted. So refusals are decided too.
pub record DecidedBy (T : Ended) (X : Lives T → Type 0) (see : (κs : Lives T) → Answer T κs → X κs) (Post : Contract T) : Type 0 where
  pub equal : (κs : Lives T) (a : Args T.signature κs) (o q : Outcome T κs a) → Permits T κs a Post o → Permits T κs a Post q
      → ◌≡◌ {A = X κs × Lasts T κs a} (see κs o.0, o.1) (see κs q.0, q.1)

-- the whole answer
abbrev pub Decided : (T : Ended) → Contract T → Type 0
Decided T = DecidedBy T (Answer T) (λ κs r. r)
