-- What the walks over a table tell: which event a number belongs to, which lists of markers are its colours, and markers as numbers.
use Rattle.std.specs.Prelude.{Option, None, Some, ℕ, zero, suc, ◌+◌, ◌≤◌, ◌<◌, ◌≡◌, Bool, true, false, ◌&&◌, List, [], ◌∷◌, map, ltb, length}
use Rattle.lists.specs.Lists.{index, keep, sum}
use Rattle.model.specs.Runs.{Marker, at_start, by_event}
use Rattle.model.specs.Unfolding.{same_marker, markers}
use Rattle.model.specs.Numbering.{size, event_count}
use Rattle.model.specs.Across.{most_unfolded}
use Rattle.table.specs.Walk.{offset_of}
use Rattle.table.specs.Decoded.{net_of}
use Rattle.layout.specs.Laid.{Marked}
use Rattle.unfolding.specs.declared.Coloured.{Coloured}

-- A table's markers are counted, and its unfolded events are within the limit (01, Unfolding).
pub record Within (s ms : List ℕ) (events : ℕ) : Type 0 where
  pub marked : Marked s ms
  pub few : event_count (net_of s) ≤ most_unfolded
  pub all : events ≡ (net_of s).events

-- The event that a number belongs to, with its record's offset, what is left of the number, and its number of colours (01, Unfolding).
pub record Owner (s : List ℕ) (j e at rest weight : ℕ) : Type 0 where
  pub event : e < (net_of s).events
  pub offset : at ≡ offset_of s e
  pub left : sum (size (net_of s)) e + rest ≡ j
  pub whole : weight ≡ size (net_of s) e
  pub below : rest < weight

-- A number belongs to an event, or is past the last (01, Unfolding).
abbrev pub Belongs : List ℕ → ℕ → Option Coloured → Type 0
Belongs s j (Some own) = Owner s j own.event own.at own.rest own.weight
Belongs s j None = event_count (net_of s) ≤ j

-- The lists of markers of the persistent ones in a list of conditions (01, Unfolding).
abbrev pub choices_of : List ℕ → List ℕ → List (List Marker)
choices_of s l = map (markers (net_of s)) (keep (net_of s).persistent l)

-- Each list of markers has the marker beside it, and there is one for each.
abbrev pub all_mark : List (List Marker) → List Marker → Bool
all_mark [] [] = true
all_mark [] (m ∷ c) = false
all_mark (ms ∷ mss) [] = false
all_mark (ms ∷ mss) (m ∷ c) = ltb (index (same_marker m) ms) (length ms) && all_mark mss c

-- A marker as a number: 0 for the start, else one more than its event.
abbrev pub code : Marker → ℕ
code at_start = 0
code (by_event e) = e + 1

-- The marker that such a number tells.
abbrev pub told : ℕ → Marker
told zero = at_start
told (suc e) = by_event e
