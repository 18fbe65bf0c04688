-- `game::ready` meets its contract.
use Rattle.std.proofs.Common.{rules}
use mathlib.Core.Path.{◌≡◌, ◌∙◌, sym, ap}
use borrow.Author.Tests.{lt-ltb, le-ltb}
use Rattle.std.specs.Prelude.{Ok}
use Rattle.refusal.proofs.Chain.{passed_up, goes_on, need_passes, need_refuses}
use Rattle.game.proofs.Found.{ready_is}
use Rattle.game.proofs.ready.Goals as goal

pub returns-in_err-n : goal.returns-in_err-n
returns-in_err-n c =
    let same : c.from_residual.result ≡ c.judge_lent.result = search rules in
    same ∙ passed_up _ c.judge_lent.ensures c.in_err-n.was ∙ sym (ready_is c.args.table.now c.args.marking.now c.args.e)

pub returns-then-e-n : goal.returns-then-e-n
returns-then-e-n c =
    ap Ok c.offset.ensures ∙ sym (ready_is c.args.table.now c.args.marking.now c.args.e ∙ goes_on _ c.judge_lent.ensures c.in_ok-n.was ∙ need_passes 10 0 (lt-ltb _ _ c.if-e-n.true))

pub returns-else-e-n : goal.returns-else-e-n
returns-else-e-n c =
    c.refused.ensures ∙ sym (ready_is c.args.table.now c.args.marking.now c.args.e ∙ goes_on _ c.judge_lent.ensures c.in_ok-n.was ∙ need_refuses 10 0 _ (le-ltb _ _ c.if-e-n.false))
