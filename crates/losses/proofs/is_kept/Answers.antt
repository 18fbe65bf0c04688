-- `losses::is_kept` meets its contract.
use mathlib.Core.Path.{◌∙◌, sym}
use Rattle.words.specs.Words.{words}
use Rattle.losses.proofs.Steps.{kept_flagged, kept_listed}
use Rattle.losses.proofs.is_kept.Goals as goal

pub returns-then-is_persistent : goal.returns-then-is_persistent
returns-then-is_persistent c =
    let args = c.args in
    let flag = c.is_persistent.ensures in
    kept_flagged args.table.now (words args.list.now) args.b (sym flag ∙ c.if-is_persistent.true)

pub returns : goal.returns
returns c =
    let args = c.args in
    let flag = c.is_persistent.ensures in
    c.has.ensures ∙ kept_listed args.table.now (words args.list.now) args.b (sym flag ∙ c.if-is_persistent.false)
