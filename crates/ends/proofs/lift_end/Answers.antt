-- `ends::lift_end` meets its contract.
use Rattle.std.proofs.Common.{rules}
use Rattle.ends.proofs.Answers.{lift_end_refused, lift_ends, lift_within}
use mathlib.Core.Path.{◌≡◌, refl, sym, ◌∙◌}
use Rattle.ends.proofs.lift_end.Goals as goal

pub returns-in_err-steps : goal.returns-in_err-steps
returns-in_err-steps c =
    let same : c.from_residual.result ≡ c.lift.result = search rules in
    let whole = lift_end_refused c.args.table.now c.args.run.now c.args.out.now _ c.lift.ensures.answer c.in_err-steps.was in
    record {
      answer = same ∙ whole.0;
      after = whole.1;
    }

pub slice_bounds-unfolded_replay-end : goal.slice_bounds-unfolded_replay-end
slice_bounds-unfolded_replay-end c =
    lift_within c.args.table.now c.args.run.now _ _ _ (sym c.lift.ensures.answer ∙ c.in_ok-steps.was) refl c.lift.ensures.after

pub returns : goal.returns
returns c =
    let whole = lift_ends c.args.table.now c.args.run.now c.args.out.now _ _ _ (sym c.lift.ensures.answer ∙ c.in_ok-steps.was) refl c.lift.ensures.after _ _ c.unfolded_replay.ensures.answer c.unfolded_replay.ensures.after in
    record {
      answer = whole.0;
      after = whole.1;
    }
