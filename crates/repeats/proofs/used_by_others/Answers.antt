-- `repeats::used_by_others` meets its contract.
use mathlib.Core.Path.{◌∙◌, sym, ap}
use lib.Dec.{ltb}
use Rattle.words.specs.Words.{words}
use Rattle.repeats.proofs.Steps.{ordinary_none, one_itself, one_other, not_one}
use Rattle.repeats.proofs.used_by_others.Goals as goal

pub returns-then-has : goal.returns-then-has
returns-then-has c =
    one_itself c.args.table.now c.args.users.now (words c.args.pre.now) c.args.b (sym c.is_persistent.ensures ∙ c.if-is_persistent.true) (sym c.number-count.ensures ∙ c.if-count-eq1.true) (sym c.has.ensures ∙ c.if-has.true)

pub returns-then-count-eq1 : goal.returns-then-count-eq1
returns-then-count-eq1 c =
    one_other c.args.table.now c.args.users.now (words c.args.pre.now) c.args.b (sym c.is_persistent.ensures ∙ c.if-is_persistent.true) (sym c.number-count.ensures ∙ c.if-count-eq1.true) (sym c.has.ensures ∙ c.if-has.false)

pub returns-then-is_persistent : goal.returns-then-is_persistent
returns-then-is_persistent c =
    ap (ltb 1) c.number-count.ensures ∙ not_one c.args.table.now c.args.users.now (words c.args.pre.now) c.args.b (sym c.is_persistent.ensures ∙ c.if-is_persistent.true) (λ e. c.if-count-eq1.false (c.number-count.ensures ∙ e))

pub returns : goal.returns
returns c =
    ordinary_none c.args.table.now c.args.users.now (words c.args.pre.now) c.args.b (sym c.is_persistent.ensures ∙ c.if-is_persistent.false)
