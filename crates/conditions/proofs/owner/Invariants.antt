-- The number is past those of the conditions before the next one.
use Prim.Native.Nat.{◌≤◌}
use Rattle.lists.specs.Lists.{sum}
use Rattle.model.specs.Numbering.{width}
use Rattle.table.specs.Decoded.{net_of}
use Rattle.conditions.proofs.owner.Given as goal

abbrev pub invariant-loop-b : goal.invariant-loop-b
invariant-loop-b l = sum (width (net_of l.table)) l.b ≤ l.i
