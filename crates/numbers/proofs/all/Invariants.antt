-- Each net takes four bytes and those of its table.
use Rattle.std.proofs.Common.{length}
use Rattle.numbers.proofs.all.Given as goal

abbrev pub decreases-loop-left : goal.decreases-loop-left
decreases-loop-left g l = length l.left
