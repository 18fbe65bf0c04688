-- The total is the copies of the conditions before the next one.
use mathlib.Core.Path.{◌≡◌}
use Rattle.lists.specs.Lists.{sum}
use Rattle.model.specs.Numbering.{width}
use Rattle.table.specs.Decoded.{net_of}
use Rattle.located.proofs.base.Given as goal

abbrev pub invariant-loop-i : goal.invariant-loop-i
invariant-loop-i l = l.total ≡ sum (width (net_of l.table)) l.i
