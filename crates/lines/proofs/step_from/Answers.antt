-- Tests decide the place.
use mathlib.Core.Path.{sym}
use Rattle.lines.proofs.Writing.{at_step, past_steps}
use Rattle.lines.proofs.step_from.Goals as goal

pub returns-then-k-steps : goal.returns-then-k-steps
returns-then-k-steps c =
    sym (at_step c.args.steps c.args.k c.if-k-steps.true)

pub returns : goal.returns
returns c =
    sym (past_steps c.args.steps c.args.k c.if-k-steps.false)
