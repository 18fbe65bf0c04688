-- What each turn of a loop in `segments::total` keeps.
use mathlib.Core.Path.{◌≡◌}
use Prim.Native.Nat.{◌*◌, ◌≤◌}
use lib.ListN.{get_or}
use Rattle.lists.specs.Lists.{sum}
use Rattle.segments.proofs.total.Given as goal

abbrev pub invariant-loop-size : goal.invariant-loop-size
invariant-loop-size l = (l.sum ≤ 4294967295 * l.size-index) × (l.sum ≡ sum (λ r. get_or l.sizes r 0) l.size-index)
