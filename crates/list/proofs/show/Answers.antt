-- What is needed at a place is there at the next, and fewer pieces are left.
use Rattle.std.proofs.Common.{sym, ◌∙◌}
use Rattle.lines.proofs.Writing.{written_ready, written_fewer}
use Rattle.list.proofs.show.Goals as goal

pub loop-text-smaller : goal.loop-text-smaller
loop-text-smaller g c =
    written_fewer c.args.table.now c.args.events c.args.offsets.now c.args.steps.now c.args.lifted.now c.args.end.now c.loop-text.marking c.write-written.new.marking c.loop-text.place c.write-written.result c.write-written.ensures.answer (sym c.loop-text-test.ensures)

pub loop-text-preserved : goal.loop-text-preserved
loop-text-preserved g c =
    (written_ready c.args.table.now c.args.events c.args.offsets.now c.args.steps.now c.args.lifted.now c.args.end.now c.loop-text.marking c.write-written.new.marking c.loop-text.place c.write-written.result c.write-written.ensures.answer c.loop-text.invariant.0 c.write-written.ensures.moved, c.write-written.auto.marking ∙ c.loop-text.invariant.1, c.write-written.auto.out ∙ c.loop-text.invariant.2)
