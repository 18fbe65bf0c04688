-- `later::only_user` meets its contract.
use mathlib.Core.Path.{◌∙◌, sym}
use Rattle.words.specs.Words.{words}
use Rattle.later.proofs.Owning.{not_one, one_ordinary, one_persistent}
use Rattle.later.proofs.only_user.Goals as goal

pub returns-then-is_persistent : goal.returns-then-is_persistent
returns-then-is_persistent c =
    c.has.ensures ∙ one_persistent c.args.table.now c.args.users.now (words c.args.pre.now) c.args.b (sym c.number.ensures ∙ c.if-number-eq1.true) (sym c.is_persistent.ensures ∙ c.if-is_persistent.true)

pub returns-else-is_persistent : goal.returns-else-is_persistent
returns-else-is_persistent c =
    one_ordinary c.args.table.now c.args.users.now (words c.args.pre.now) c.args.b (sym c.number.ensures ∙ c.if-number-eq1.true) (sym c.is_persistent.ensures ∙ c.if-is_persistent.false)

pub returns-else-number-eq1 : goal.returns-else-number-eq1
returns-else-number-eq1 c =
    not_one c.args.table.now c.args.users.now (words c.args.pre.now) c.args.b (λ q. c.if-number-eq1.false (c.number.ensures ∙ q))
