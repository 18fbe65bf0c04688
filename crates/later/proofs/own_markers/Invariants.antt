-- What each turn of a loop in `later::own_markers` keeps.
use Rattle.table.specs.Decoded.{net_of}
use Rattle.table.proofs.InOrder.{Over}
use Rattle.later.proofs.Upto.{Upto}
use Rattle.later.proofs.own_markers.Given as goal

abbrev pub invariant-loop-event : goal.invariant-loop-event
invariant-loop-event l = Over l.table l.events l.event-iterator × Upto (net_of l.table) l.event-iterator.number l.initial.later.slots l.later.slots
