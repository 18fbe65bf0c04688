-- What each turn of a loop in `spots::reach` keeps, and what falls.
use Prim.Native.Nat.{◌-◌, ◌≤◌}
use Rattle.model.specs.Numbering.{event_count}
use Rattle.table.specs.Decoded.{net_of}
use Rattle.spots.specs.Spots.{Due}
use Rattle.spots.proofs.reach.Given as goal

abbrev pub invariant-loop-found : goal.invariant-loop-found
invariant-loop-found l = Due l.table l.markers l.users l.bases l.marks l.uses l.starts l.sizes l.found l.transition l.before × (l.before ≤ l.wanted)

abbrev pub decreases-loop-found : goal.decreases-loop-found
decreases-loop-found l = event_count (net_of l.table) - l.transition
