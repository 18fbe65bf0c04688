-- Stage after stage, and what refuses first is passed up.
use Rattle.std.proofs.Common.{rules}
use Rattle.std.specs.Prelude.{Err}
use mathlib.Core.Path.{◌≡◌, refl}
use Rattle.opening.proofs.Opening.{files_refused, read_room, run_refused, never_refused, opened}
use Rattle.opening.proofs.open_files.Goals as goal

pub returns-in_err-count : goal.returns-in_err-count
returns-in_err-count c =
    let read = c.read_files in
    let told : c.from_residual.result ≡ Err c.in_err-count.field-0.0 = search rules in
    files_refused c.args.net.now c.args.run.now c.args.steps.now read.new.steps read.result c.requires.many read.ensures.answer read.ensures.after c.in_err-count.was _ told _ _ _ _

pub returns-in_err-unfolded : goal.returns-in_err-unfolded
returns-in_err-unfolded c =
    let read = c.read_files in
    let told : c.from_residual-in_err-unfolded.result ≡ Err c.in_err-unfolded.field-0.0 = search rules in
    run_refused c.args.net.now c.args.run.now c.args.steps.now read.new.steps read.result c.requires.many read.ensures.answer read.ensures.after _ c.in_ok-count.was c.reach_end.result c.reach_end.new.lifted c.reach_end.new.end c.reach_end.ensures c.in_err-unfolded.was _ told _ _

pub returns-in_err-events : goal.returns-in_err-events
returns-in_err-events c =
    let read = c.read_files in
    never_refused c.args.net.now c.args.run.now c.args.steps.now read.new.steps read.result c.requires.many read.ensures.answer read.ensures.after _ c.in_ok-count.was c.reach_end.result c.reach_end.new.lifted c.reach_end.new.end c.reach_end.ensures c.set_up.result c.set_up.new.offsets c.set_up.new.marking c.set_up.ensures c.in_err-events.was

pub returns : goal.returns
returns c =
    let read = c.read_files in
    opened c.args.net.now c.args.run.now c.args.steps.now read.new.steps read.result c.requires.many read.ensures.answer read.ensures.after _ c.in_ok-count.was c.reach_end.result c.reach_end.new.lifted c.reach_end.new.end c.reach_end.ensures c.set_up.result c.set_up.new.offsets c.set_up.new.marking c.set_up.ensures _ refl c.in_ok-unfolded.was c.in_ok-events.was c.conditions.ensures

pub slice_bounds-reach_end-end : goal.slice_bounds-reach_end-end
slice_bounds-reach_end-end c =
    let read = c.read_files in
    read_room c.args.net.now c.args.run.now c.args.steps.now read.new.steps read.result c.requires.many read.ensures.answer read.ensures.after _ c.in_ok-count.was read.auto.steps
