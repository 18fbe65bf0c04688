-- `step::set_one` meets its contract.
use Rattle.step.proofs.Lists.{set_kept, set_in, set_past}
use Rattle.step.proofs.set_one.Goals as goal

pub returns-then-byte-eq1 : goal.returns-then-byte-eq1
returns-then-byte-eq1 c =
    set_kept c.args.kept.now c.args.state.now c.args.value c.args.b _ c.byte.ensures c.if-byte-eq1.true

pub returns-then-b-state : goal.returns-then-b-state
returns-then-b-state c =
    set_in c.args.kept.now c.args.state.now c.args.value c.args.b _ c.byte.ensures c.if-byte-eq1.false

pub returns-else-b-state : goal.returns-else-b-state
returns-else-b-state c =
    set_past c.args.kept.now c.args.state.now c.args.value c.args.b _ c.byte.ensures c.if-byte-eq1.false c.if-b-state.false
