-- Tests decide the place.
use mathlib.Core.Path.{sym}
use Rattle.lines.proofs.Writing.{at_more, past_more}
use Rattle.lines.proofs.more_from.Goals as goal

pub returns-then-from-conditions : goal.returns-then-from-conditions
returns-then-from-conditions c =
    sym (at_more c.args.conditions c.args.from c.if-from-conditions.true)

pub returns : goal.returns
returns c =
    sym (past_more c.args.conditions c.args.from c.if-from-conditions.false)
