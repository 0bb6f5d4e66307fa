-- The two values read are those that the charge tests.
use Rattle.plan.proofs.Plans.{Charged, head_charged, charged_by}
use mathlib.Core.Bool.{true, false}
use mathlib.Core.Path.{sym, ◌∙◌}
use Rattle.plan.proofs.charged.Goals as goal

pub value_of-a-requires : goal.value_of-a-requires
value_of-a-requires c =
    let values : Charged c.args.words.now c.args.plan.now c.args.at c.args.pair = head_charged c.args.words.now c.args.plan.now c.args.at c.args.pair c.requires.0 c.requires.1 c.requires.2 c.requires.3 in
    (values.first.low, values.first.inside)

pub value_of-b-requires : goal.value_of-b-requires
value_of-b-requires c =
    let values : Charged c.args.words.now c.args.plan.now c.args.at c.args.pair = head_charged c.args.words.now c.args.plan.now c.args.at c.args.pair c.requires.0 c.requires.1 c.requires.2 c.requires.3 in
    (values.second.low, values.second.inside)

pub allows-requires : goal.allows-requires
allows-requires c =
    let values : Charged c.args.words.now c.args.plan.now c.args.at c.args.pair = head_charged c.args.words.now c.args.plan.now c.args.at c.args.pair c.requires.0 c.requires.1 c.requires.2 c.requires.3 in
    let v = values in (
      c.requires.2,
      rw (c.value_of-a.ensures, ← v.first_is) v.first.value,
      rw (c.value_of-b.ensures, ← v.second_is) v.second.value,
    )

pub returns-then-allows : goal.returns-then-allows
returns-then-allows c =
    sym (charged_by c.args.words.now c.args.plan.now c.args.at c.args.pair c.value_of-a.result c.value_of-b.result true
    c.requires.3 c.value_of-a.ensures c.value_of-b.ensures (sym c.if-allows.true ∙ c.allows.ensures))

pub returns : goal.returns
returns c =
    sym (charged_by c.args.words.now c.args.plan.now c.args.at c.args.pair c.value_of-a.result c.value_of-b.result false
    c.requires.3 c.value_of-a.ensures c.value_of-b.ensures (sym c.if-allows.false ∙ c.allows.ensures))
