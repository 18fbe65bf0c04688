-- `project::project` meets its contract.
use Rattle.std.proofs.Common.{rules}
use mathlib.Core.Path.{◌∙◌, ◌≡◌, refl}
use Rattle.project.proofs.Told.{told_prepared, judged_is, told_stopped, reading, told_written}
use Rattle.project.proofs.project.Goals as goal

pub returns-in_err-events : goal.returns-in_err-events
returns-in_err-events c =
    let same : c.from_residual.result ≡ c.lay_out_run.result = search rules in
    let whole = told_prepared c.args.table.now c.args.lifted.now c.args.out.now _ c.lay_out_run.ensures.answer c.in_err-events.was in
    record {
      answer = same ∙ whole.0;
      after = whole.1;
    }

pub replay_lifted-requires : goal.replay_lifted-requires
replay_lifted-requires c =
    let ready = (c.lay_out_run.ensures.ready _ c.in_ok-events.was) in
    record {
      replayable = record { short = ready.short; judged = judged_is c.args.table.now c.args.lifted.now c.args.out.now _ c.lay_out_run.ensures.answer _ c.in_ok-events.was; counted = ready.laid.counted; few = ready.laid.few_events; few_conditions = ready.laid.few_conditions; sizes = ready.sizes };
      state_value = (refl, refl);
    }

pub returns-in_err-replay_lifted : goal.returns-in_err-replay_lifted
returns-in_err-replay_lifted c =
    let same : c.from_residual-in_err-replay_lifted.result ≡ c.replay_lifted.result = search rules in
    let whole = told_stopped c.args.table.now c.args.lifted.now c.args.out.now _ c.lay_out_run.ensures.answer _ c.in_ok-events.was _ _ _ c.replay_lifted.ensures c.in_err-replay_lifted.was in
    record {
      answer = same ∙ whole.0;
      after = whole.1;
    }

pub write_back-requires : goal.write_back-requires
write_back-requires c =
    reading c.args.table.now c.args.lifted.now c.args.out.now _ c.lay_out_run.ensures.answer _ c.in_ok-events.was _ _ _ c.replay_lifted.ensures _ c.in_ok-replay_lifted.was _ _ _ _ (c.lay_out_run.ensures.ready _ c.in_ok-events.was)

pub returns : goal.returns
returns c =
    let ready = (c.lay_out_run.ensures.ready _ c.in_ok-events.was) in
    let whole = told_written c.args.table.now c.args.lifted.now c.args.out.now _ c.lay_out_run.ensures.answer _ c.in_ok-events.was _ _ _ c.replay_lifted.ensures _ c.in_ok-replay_lifted.was _ _ ready.sizes _ c.write_back.ensures.answer c.write_back.ensures.after in
    record {
      answer = whole.0;
      after = whole.1;
    }
