-- What each turn of a loop in `event_numbers::weigh` keeps, and what falls.
use Prim.Native.Nat.{◌-◌, ◌≤◌}
use lib.ListN.{length}
use Rattle.event_numbers.proofs.Weights.{Carrying}
use Rattle.event_numbers.proofs.weigh.Given as goal

abbrev pub invariant-loop-i : goal.invariant-loop-i
invariant-loop-i l = (l.i ≤ length l.pre) × (l.at ≤ l.c.count) × Carrying l.table l.pre l.c l.number l.at l.i

abbrev pub decreases-loop-i : goal.decreases-loop-i
decreases-loop-i l = length l.pre - l.i
