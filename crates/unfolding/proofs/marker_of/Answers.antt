-- `unfolding::marker_of` meets its contract.
use Rattle.unfolding.proofs.Places.{told_event}
use Rattle.unfolding.proofs.marker_of.Goals as goal

pub returns : goal.returns
returns c = told_event c.args.code c.if-code-eq0.false
