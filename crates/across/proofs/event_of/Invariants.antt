-- What each turn of a loop in `across::event_of` keeps, and what falls.
use Prim.Native.Nat.{◌-◌, ◌≤◌}
use Rattle.across.specs.Prepared.{Around}
use Rattle.across.proofs.event_of.Given as goal

abbrev pub invariant-loop-high : goal.invariant-loop-high
invariant-loop-high l = Around l.before l.low l.high l.j × (l.high ≤ l.events)

abbrev pub decreases-loop-high : goal.decreases-loop-high
decreases-loop-high l = l.high - l.low
