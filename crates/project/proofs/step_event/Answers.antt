-- `project::step_event` meets its contract.
use Rattle.std.proofs.Common.{rules}
use mathlib.Core.Path.{◌≡◌, ◌∙◌, sym}
use Rattle.project.proofs.Steps.{event_goes, event_stopped, event_fired}
use Rattle.project.proofs.step_event.Goals as goal

pub returns-in_err-decide : goal.returns-in_err-decide
returns-in_err-decide c =
    let same : c.from_residual.result ≡ c.decide.result = search rules in
    let whole = event_stopped c.args.table.now c.args.at c.args.e c.args.state.now c.args.seen.now c.args.places.now _ c.decide.ensures _ c.in_err-decide.was in
    record {
      answer = same ∙ whole.0;
      after = whole.1.0;
      noted = whole.1.1;
    }

pub fire_at-requires : goal.fire_at-requires
fire_at-requires c =
    c.requires.fires (event_goes c.args.table.now c.args.at c.args.e c.args.state.now c.args.seen.now c.args.places.now _ c.decide.ensures c.in_ok-decide.was)

pub returns : goal.returns
returns c =
    let whole = event_fired c.args.table.now c.args.at c.args.e c.args.state.now c.args.seen.now c.args.places.now _ c.decide.ensures c.in_ok-decide.was _ c.fire_at.ensures in
    record {
      answer = sym c.in_ok-decide.was ∙ whole.0;
      after = whole.1.0;
      noted = whole.1.1;
    }
