-- `tally::number` meets its contract.
use mathlib.Core.Path.{sym}
use lib.ListN.{get_or-eq_default}
use Rattle.tally.proofs.number.Goals as goal

pub returns-else-b-counts : goal.returns-else-b-counts
returns-else-b-counts c = sym (get_or-eq_default c.args.counts.now 0 c.if-b-counts.false)
