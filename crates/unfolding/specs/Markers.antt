-- Markers of the calls beside the model's.
use Rattle.model.specs.Runs.{Marker, at_start, by_event}
use Rattle.refusal.specs.declared.Marker as declared
use Rattle.refusal.specs.declared.Marker.TheVariants.{Start, ByEvent}

-- A marker of the model as an answer gives it (01, Unfolding).
abbrev pub shown : Marker → declared.Marker
shown at_start = Start
shown (by_event e) = ByEvent (record { 0 = e })

-- A marker as a call is given it, in the model (01, Unfolding).
abbrev pub meant : declared.Marker → Marker
meant Start = at_start
meant (ByEvent e) = by_event e.0
