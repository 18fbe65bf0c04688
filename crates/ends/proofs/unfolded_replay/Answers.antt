-- `ends::unfolded_replay` meets its contract.
use Rattle.std.proofs.Common.{rules}
use Rattle.project.proofs.Told.{judged_is}
use Rattle.ends.proofs.Answers.{replay_prepared, replay_stopped, replay_ends}
use mathlib.Core.Path.{◌∙◌, ◌≡◌, refl}
use Rattle.ends.proofs.unfolded_replay.Goals as goal

pub returns-in_err-events : goal.returns-in_err-events
returns-in_err-events c =
    let same : c.from_residual.result ≡ c.lay_out_run.result = search rules in
    let whole = replay_prepared c.args.table.now c.args.lifted.now c.args.end.now _ c.lay_out_run.ensures.answer c.in_err-events.was in
    record {
      answer = same ∙ whole.0;
      after = whole.1;
    }

pub replay_lifted-requires : goal.replay_lifted-requires
replay_lifted-requires c =
    let s = c.args.table.now in
    let ready = c.lay_out_run.ensures.ready _ c.in_ok-events.was in
    record {
      replayable = record { short = ready.short; judged = judged_is s c.args.lifted.now c.args.end.now _ c.lay_out_run.ensures.answer _ c.in_ok-events.was; counted = ready.laid.counted; few = ready.laid.few_events; few_conditions = ready.laid.few_conditions; sizes = ready.sizes };
      state_value = (refl, refl);
    }

pub returns-in_err-replay_lifted : goal.returns-in_err-replay_lifted
returns-in_err-replay_lifted c =
    let same : c.from_residual-in_err-replay_lifted.result ≡ c.replay_lifted.result = search rules in
    let s = c.args.table.now in
    let j = judged_is s c.args.lifted.now c.args.end.now _ c.lay_out_run.ensures.answer _ c.in_ok-events.was in
    let whole = replay_stopped s c.args.lifted.now c.args.end.now _ c.lay_out_run.ensures.answer _ c.in_ok-events.was j _ _ _ c.replay_lifted.ensures c.in_err-replay_lifted.was in
    record {
      answer = same ∙ whole.0;
      after = whole.1;
    }

pub write_marking-requires : goal.write_marking-requires
write_marking-requires c =
    let s = c.args.table.now in
    let ready = c.lay_out_run.ensures.ready _ c.in_ok-events.was in
    let told = c.replay_lifted.ensures.lents _ c.in_ok-replay_lifted.was in
    record {
      shown = record { markers = _; laid = ready.laid; judged = judged_is s c.args.lifted.now c.args.end.now _ c.lay_out_run.ensures.answer _ c.in_ok-events.was; lent = told.0 };
      places_len = ready.laid.counted.marked.marks.size;
    }

pub returns : goal.returns
returns c =
    let s = c.args.table.now in
    let j = judged_is s c.args.lifted.now c.args.end.now _ c.lay_out_run.ensures.answer _ c.in_ok-events.was in
    let whole = replay_ends s c.args.lifted.now c.args.end.now _ c.lay_out_run.ensures.answer _ c.in_ok-events.was j _ _ _ c.replay_lifted.ensures _ c.in_ok-replay_lifted.was _ _ c.write_marking.ensures.answer c.write_marking.ensures.after in
    record {
      answer = whole.0;
      after = whole.1;
    }
