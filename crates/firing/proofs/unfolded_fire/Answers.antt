-- `firing::unfolded_fire` meets its contract.
use Rattle.std.proofs.Common.{rules}
use mathlib.Core.Path.{◌∙◌, ◌≡◌, refl}
use lib.ListN.{length}
use Rattle.std.specs.Prelude.{Ok}
use Rattle.stopping.specs.Unfolded.{answered_of}
use Rattle.unfolding.proofs.Owners.{within_laid}
use Rattle.firing.proofs.Lends.{fire_refused, fire_past, fire_answers}
use Rattle.firing.proofs.unfolded_fire.Goals as goal

pub returns-in_err-events : goal.returns-in_err-events
returns-in_err-events c =
    let same : c.from_residual.result ≡ c.lend.result = search rules in
    let whole = fire_refused c.args.table.now c.args.marking.now c.args.j.0 c.lend.result c.lend.new.markers c.lend.new.users c.lend.new.bases c.lend.ensures _ c.in_err-events.was in
    record {
      answer = same ∙ whole.0;
      after = whole.1;
    }

pub owner-requires : goal.owner-requires
owner-requires c =
    within_laid c.args.table.now c.lend.new.markers c.lend.new.users c.lend.new.bases c.in_ok-events.events (c.lend.ensures.laid c.in_ok-events.events c.in_ok-events.was) (c.lend.ensures.events c.in_ok-events.events c.in_ok-events.was)

pub returns-in_default : goal.returns-in_default
returns-in_default c =
    let whole = fire_past c.args.table.now c.args.marking.now c.args.j.0 c.lend.result c.lend.new.markers c.lend.new.users c.lend.new.bases c.lend.ensures c.in_ok-events.events c.in_ok-events.was (rw c.in_default.is at c.owner.ensures) c.refused.result c.refused.ensures in
    record {
      answer = whole.0;
      after = whole.1;
    }

pub step_at-requires : goal.step_at-requires
step_at-requires c =
    let o = c.in-Some.ensures in
    record {
      owned = record { laid = c.lend.ensures.laid c.in_ok-events.events c.in_ok-events.was; event = o.event; offset = o.offset; whole = o.whole; below = o.below };
      state_len = (c.lend.ensures.long c.in_ok-events.events c.in_ok-events.was, c.lend.ensures.lents c.in_ok-events.events c.in_ok-events.was);
    }

pub returns-in_err-step_at : goal.returns-in_err-step_at
returns-in_err-step_at c =
    let new = c.lend.new in
    let count = length c.args.marking.now in
    let told : c.from_residual-in_err-step_at.result ≡ answered_of c.step_at.result count = rw c.in_err-step_at.was (search rules) in
    let fires = fire_answers c.args.table.now c.args.marking.now c.args.j.0 c.lend.result new.markers new.users new.bases c.lend.ensures _ c.in_ok-events.was c.in-Some.ensures in
    let whole = fires c.step_at.result count c.from_residual-in_err-step_at.result c.step_at.new.state refl c.step_at.ensures.answer c.step_at.ensures.after told in
    record {
      answer = whole.0;
      after = whole.1;
    }

pub returns : goal.returns
returns c =
    let new = c.lend.new in
    let count = length c.args.marking.now in
    let told : Ok count ≡ answered_of c.step_at.result count = rw c.in_ok-step_at.was refl in
    let fires = fire_answers c.args.table.now c.args.marking.now c.args.j.0 c.lend.result new.markers new.users new.bases c.lend.ensures _ c.in_ok-events.was c.in-Some.ensures in
    let whole = fires c.step_at.result count (Ok count) c.step_at.new.state refl c.step_at.ensures.answer c.step_at.ensures.after told in
    record {
      answer = whole.0;
      after = whole.1;
    }
