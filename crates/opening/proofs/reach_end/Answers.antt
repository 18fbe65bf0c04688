-- The lift is written, and its numbers are replayed.
use mathlib.Core.Path.{◌≡◌, ◌∙◌}
use Rattle.std.proofs.Common.{rules}
use Rattle.opening.proofs.Opening.{reach_refused, lift_room, reach_ended}
use Rattle.opening.proofs.reach_end.Goals as goal

pub returns-in_err-count : goal.returns-in_err-count
returns-in_err-count c =
    let same : c.from_residual.result ≡ c.lift.result = search rules in
    rw same (reach_refused c.args.table.now c.args.run.now c.args.lifted.now c.lift.new.out c.lift.result c.requires.0 c.lift.ensures.answer c.lift.ensures.after c.in_err-count.was _)

pub returns : goal.returns
returns c =
    reach_ended c.args.table.now c.args.run.now c.args.lifted.now c.lift.new.out c.lift.result c.requires.0 c.lift.ensures.answer c.lift.ensures.after _ c.in_ok-count.was c.args.end.now _ _ c.requires.1 c.unfolded_replay.ensures.answer c.unfolded_replay.ensures.after

pub slice_bounds-unfolded_replay-end : goal.slice_bounds-unfolded_replay-end
slice_bounds-unfolded_replay-end c =
    lift_room c.args.table.now c.args.run.now c.args.lifted.now c.lift.new.out c.lift.result c.requires.0 c.lift.ensures.answer c.lift.ensures.after _ c.in_ok-count.was c.lift.auto.out
