-- What each turn of a loop in `places::event_numbers` keeps.
use Rattle.table.proofs.InOrder.{Over}
use Rattle.places.specs.Numbers.{Numbered}
use Rattle.places.proofs.event_numbers.Given as goal

abbrev pub invariant-loop-event : goal.invariant-loop-event
invariant-loop-event l = Over l.table l.events l.event-iterator × Numbered l.table l.markers l.places l.event-iterator.number l.numbers
