-- The step is fired before its line is written.
use Prim.Native.Nat.{◌≤◌, ◌<◌}
use native.Mathlib.Omega.{arith}
use mathlib.Core.Path.{sym, ap, ◌∙◌}
use lib.ListN.{length}
use Rattle.table.specs.Decoded.{net_of}
use Rattle.lines.specs.Places.{fired}
use Rattle.lines.proofs.Long.{step_fits}
use Rattle.lines.proofs.Writing.{fired_is, step_put, steady_few}
use Rattle.lines.proofs.write_step.Goals as goal

pub returns : goal.returns
returns c =
    record {
      moved = c.step_event.ensures.after ∙ sym (fired_is (net_of c.args.table.now) c.args.marking.now c.number_at-event.result) ∙ ap (fired (net_of c.args.table.now) c.args.marking.now) c.number_at-event.ensures;
      wrote = step_put c.args.steps.now c.args.lifted.now c.step_event.new.state c.args.k c.number_at-event.ensures c.number_at-unfolded.ensures c.put.ensures;
    }

pub put-requires : goal.put-requires
put-requires c =
    let few : length c.step_event.new.state ≤ 256 = omega (arith, c.step_event.auto.state, steady_few c.requires.0) in
    let event : c.number_at-event.result < 65536 = c.number_at-event.type_inv in
    let unfolded : c.number_at-unfolded.result < 65536 = c.number_at-unfolded.type_inv in
    (omega (arith, few), omega (arith, step_fits c.step_event.new.state few c.args.k c.number_at-event.result c.number_at-unfolded.result (omega (arith, c.requires.1, c.requires.0.short)) (omega arith) (omega arith), c.requires.2))
