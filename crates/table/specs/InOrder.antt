-- A turn of the walk over the events of a table.
use Rattle.std.specs.Prelude.{◌≡◌, ◌+◌, Option, None, Some}
use Rattle.table.specs.declared.in_order.Event.{Event}
use Rattle.table.specs.declared.in_order.Events.{Events}

-- The walk gave the event that it stood at, and stands at the next.
pub record Turned (walk : Events) (event : Event) (next : Events) : Type 0 where
  pub number_is : event.number ≡ walk.number
  pub at_is : event.at ≡ walk.at
  pub next_number : next.number ≡ walk.number + 1
  pub same_table : next.table.now ≡ walk.table.now
  pub same_end : next.end ≡ walk.end

-- A turn of the walk: an event, or none at the end, where the walk stays.
abbrev pub EventsStep : Events → Option Event → Events → Type 0
EventsStep walk None next = (walk.number ≡ walk.end) × (next ≡ walk)
EventsStep walk (Some event) next = Turned walk event next
