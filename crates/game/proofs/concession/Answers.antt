-- `game::concession` meets its contract.
use Rattle.std.proofs.Common.{rules}
use mathlib.Core.Path.{◌≡◌, ◌∙◌, refl, sym}
use Rattle.std.specs.Prelude.{Ok}
use Rattle.stopping.specs.Table.{answered_of}
use Rattle.refusal.proofs.Chain.{passed_up}
use Rattle.game.proofs.Found.{ready_fine, firing_ready, firing_told}
use Rattle.game.proofs.concession.Goals as goal

pub returns-in_err-at : goal.returns-in_err-at
returns-in_err-at c =
    let same : c.from_residual.result ≡ c.ready.result = search rules in
    same ∙ passed_up _ c.ready.ensures c.in_err-at.was ∙ sym (firing_ready c.args.table.now c.args.marking.now c.args.event.0 0)

pub test_at-requires : goal.test_at-requires
test_at-requires c =
    let k = ready_fine c.args.table.now c.args.marking.now c.args.event.0 _ (sym c.ready.ensures ∙ c.in_ok-at.was) in
    (k.listed, k.few)

pub returns-in_err-test_at : goal.returns-in_err-test_at
returns-in_err-test_at c =
    let told : c.from_residual-in_err-test_at.result ≡ answered_of c.test_at.result 0 = rw c.in_err-test_at.was (search rules) in
    told ∙ firing_told c.args.table.now c.args.marking.now c.args.event.0 0 _ _ (sym c.in_ok-at.ensures) c.test_at.ensures

pub returns : goal.returns
returns c =
    let told : Ok 0 ≡ answered_of c.test_at.result 0 = rw c.in_ok-test_at.was refl in
    told ∙ firing_told c.args.table.now c.args.marking.now c.args.event.0 0 _ _ (sym c.in_ok-at.ensures) c.test_at.ensures
