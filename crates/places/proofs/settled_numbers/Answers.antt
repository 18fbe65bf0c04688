-- `places::settled_numbers` meets its contract.
use native.Mathlib.Omega.{arith}
use mathlib.Core.Path.{refl}
use Rattle.places.proofs.Joined.{numbering, settled}
use Rattle.places.proofs.settled_numbers.Goals as goal

pub marker_places-requires : goal.marker_places-requires
marker_places-requires c =
    record {
      events_value = c.requires.within.all;
      marking = c.requires.marking;
      places_len = (refl, omega (arith, c.requires.within.all, c.requires.within.marked.limits.few_events));
    }

pub event_numbers-requires : goal.event_numbers-requires
event_numbers-requires c =
    record {
      numbering = numbering _ _ _ _ _ _ c.requires.within c.requires.sums c.requires.marking c.marker_places.ensures;
      numbers_len = c.requires.numbers_len;
    }

pub returns : goal.returns
returns c =
    settled _ _ _ _ _ _ _ c.requires.within c.requires.sums c.requires.marking c.marker_places.ensures c.event_numbers.ensures
