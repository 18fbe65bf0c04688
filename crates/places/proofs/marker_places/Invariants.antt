-- What each turn of a loop in `places::marker_places` keeps.
use Rattle.table.specs.Decoded.{net_of}
use Rattle.table.proofs.InOrder.{Over}
use Rattle.places.proofs.Counting.{Counting}
use Rattle.places.proofs.marker_places.Given as goal

abbrev pub invariant-loop-event : goal.invariant-loop-event
invariant-loop-event l = Over l.table l.events l.event-iterator × Counting (net_of l.table) l.firsts.slots l.event-iterator.number l.places
