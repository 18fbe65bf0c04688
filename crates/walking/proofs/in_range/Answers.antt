-- `walking::in_range` meets its contract.
use Rattle.walking.proofs.Ranging.{range_low, range_here}
use Rattle.walking.proofs.in_range.Goals as goal

pub returns-then-k-first : goal.returns-then-k-first
returns-then-k-first c =
    range_low c.args.first c.args.size c.args.k c.if-k-first.true

pub returns : goal.returns
returns c =
    range_here c.args.first c.args.size c.args.k c.if-k-first.false
