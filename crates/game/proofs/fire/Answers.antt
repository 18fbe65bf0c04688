-- `game::fire` meets its contract.
use Rattle.std.proofs.Common.{rules}
use mathlib.Core.Path.{◌≡◌, ◌∙◌, refl, sym, ap}
use Rattle.std.specs.Prelude.{Ok}
use Rattle.stopping.specs.Table.{answered_of}
use lib.ListN.{length}
use Rattle.refusal.proofs.Chain.{passed_up}
use Rattle.table.specs.Decoded.{net_of}
use Rattle.table.proofs.Decoded.{conditions_are_all}
use Rattle.game.specs.Calls.{firing_of}
use Rattle.game.proofs.Found.{ready_fine, firing_ready, firing_told, fired_refused, fired_fine}
use Rattle.game.proofs.fire.Goals as goal

pub returns-in_err-at : goal.returns-in_err-at
returns-in_err-at c =
    let same : c.from_residual.result ≡ c.ready.result = search rules in
    let s = c.args.table.now in
    let m = c.args.marking.now in
    let e = c.args.event.0 in record {
      answer = same ∙ passed_up _ c.ready.ensures c.in_err-at.was ∙ sym (firing_ready s m e (net_of s).conditions);
      after = fired_refused s m e _ (sym c.ready.ensures ∙ c.in_err-at.was);
    }

pub step_at-requires : goal.step_at-requires
step_at-requires c =
    let k = ready_fine c.args.table.now c.args.marking.now c.args.event.0 _ (sym c.ready.ensures ∙ c.in_ok-at.was) in
    (k.listed, k.lents, k.few)

pub returns-in_err-step_at : goal.returns-in_err-step_at
returns-in_err-step_at c =
    let s = c.args.table.now in
    let m = c.args.marking.now in
    let e = c.args.event.0 in
    let found = sym c.in_ok-at.ensures in
    let k = ready_fine s m e _ found in
    let told : c.from_residual-in_err-step_at.result ≡ answered_of c.step_at.result (length m) = rw c.in_err-step_at.was (search rules) in
    let fires = firing_told s m e (length m) _ _ found c.step_at.ensures.answer in
    record {
      answer = told ∙ fires ∙ ap (firing_of s m e) (k.long ∙ conditions_are_all s k.events k.judged);
      after = c.step_at.ensures.after ∙ fired_fine s m e _ found;
    }

pub returns : goal.returns
returns c =
    let s = c.args.table.now in
    let m = c.args.marking.now in
    let e = c.args.event.0 in
    let found = sym c.ready.ensures ∙ c.in_ok-at.was in
    let k = ready_fine s m e _ found in
    let told : Ok (length m) ≡ answered_of c.step_at.result (length m) = rw c.in_ok-step_at.was refl in
    let fires = firing_told s m e (length m) _ _ found c.step_at.ensures.answer in
    record {
      answer = told ∙ fires ∙ ap (firing_of s m e) (k.long ∙ conditions_are_all s k.events k.judged);
      after = c.step_at.ensures.after ∙ fired_fine s m e _ found;
    }
