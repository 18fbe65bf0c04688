-- What each turn of a loop in `table::offset` keeps, and what falls.
use mathlib.Core.Path.{◌≡◌}
use Prim.Native.Nat.{◌≤◌, ◌-◌, ◌+◌, ◌*◌}
use Rattle.table.specs.Walk.{offset_from, offset_of}
use Rattle.table.proofs.offset.Given as goal

abbrev pub invariant-loop-left : goal.invariant-loop-left
invariant-loop-left l = (l.left ≤ l.e) × (l.at ≤ 65544 + 65539 * (l.e - l.left)) × (offset_from l.left l.table l.at ≡ offset_of l.table l.e)

abbrev pub decreases-loop-left : goal.decreases-loop-left
decreases-loop-left l = l.left
