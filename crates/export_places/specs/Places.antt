-- Where an export stands, kept by value, and which element that is.
use Rattle.std.specs.Prelude.{ℕ, ◌+◌, ◌<◌, Bool, true, false, List, Option, None, Some}
use Rattle.model.specs.Net.{Net}
use Rattle.table.specs.Decoded.{net_of}
use Rattle.arcs.specs.Arcs.{exported}
use Rattle.spots.specs.declared.Spot.{Spot}
use Rattle.spots.specs.Spots.{arc_count, Spotted}
use Rattle.export_places.specs.declared.Place as declared
use Rattle.export_places.specs.declared.Place.TheVariants.{Opens, Place, Transition, Arc, Closes, Over}

-- The number of the element that stands at a place (02, No. 1).
abbrev pub index_at : Net → declared.Place → ℕ
index_at n Opens = 0
index_at n (Place x) = 1 + x
index_at n (Transition t) = 1 + ((exported n).places + t)
index_at n (Arc p) = 1 + ((exported n).places + ((exported n).transitions + p.number))
index_at n Closes = 1 + ((exported n).places + ((exported n).transitions + arc_count n))
index_at n Over = 2 + ((exported n).places + ((exported n).transitions + arc_count n))

-- Every place but the last has an element (02, No. 1).
abbrev pub goes_on : declared.Place → Bool
goes_on Opens = true
goes_on (Place x) = true
goes_on (Transition t) = true
goes_on (Arc p) = true
goes_on Closes = true
goes_on Over = false

-- An export stands at a place: there is such a place, transition or arc (02, No. 1).
abbrev pub Stands : List ℕ → List ℕ → List ℕ → List ℕ → List ℕ → List ℕ → List ℕ → List ℕ → declared.Place → Type 0
Stands s ms us bs marks uses starts sizes Opens = Unit {0}
Stands s ms us bs marks uses starts sizes (Place x) = x < (exported (net_of s)).places
Stands s ms us bs marks uses starts sizes (Transition t) = t < (exported (net_of s)).transitions
Stands s ms us bs marks uses starts sizes (Arc p) = Spotted s ms us bs marks uses starts sizes p
Stands s ms us bs marks uses starts sizes Closes = Unit {0}
Stands s ms us bs marks uses starts sizes Over = Unit {0}

-- The place of the arc that comes next, or of what closes (02, No. 1).
abbrev pub place_of : Option Spot → declared.Place
place_of (Some p) = Arc p
place_of None = Closes
