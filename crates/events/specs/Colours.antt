-- Colours of the calls beside the model's.
use Rattle.std.specs.Prelude.{ℕ, ◌+◌, ◌-◌, List, [], ◌∷◌, map, get_or, set, replicate}
use Rattle.lists.specs.Lists.{count}
use Rattle.model.specs.Runs.{Marker}
use Rattle.refusal.specs.declared.Marker as declared
use Rattle.refusal.specs.declared.Marker.TheVariants.{Start}
use Rattle.unfolding.specs.Markers.{shown, meant}
use Rattle.events.specs.declared.Colour.{Colour}

-- The colour without a marker.
abbrev pub no_colour : Colour
no_colour = record { count = 0; picks = replicate 16 Start }

-- A colour with one marker more.
abbrev pub push : Colour → declared.Marker → Colour
push c m = record { count = c.count + 1; picks = set c.picks c.count m }

-- A colour with a list of markers more, one after the other.
unfoldable pub push_all : Colour → List Marker → Colour
push_all c [] = c
push_all c (m ∷ ms) = push_all (push c (shown m)) ms

-- The marker at a place of a colour, the start past its sixteen places.
abbrev pub marker_at : Colour → ℕ → Marker
marker_at c i = meant (get_or c.picks i Start)

-- The markers of a colour from a place on, as many as it says (01, Unfolding).
abbrev pub colour_from : Colour → ℕ → List Marker
colour_from c at = map (marker_at c) (count at (c.count - at))

-- A colour as the model's list of markers (01, Unfolding).
abbrev pub colour_of : Colour → List Marker
colour_of c = colour_from c 0
