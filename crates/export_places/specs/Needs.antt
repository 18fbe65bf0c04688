-- What the walk from place to place needs and leaves.
use Rattle.std.specs.Prelude.{ℕ, suc, ◌+◌, ◌*◌, ◌-◌, ◌≤◌, ◌<◌, ◌≡◌, Bool, true, not, cond, List, ltb, eqb, length, get_or}
use Rattle.model.specs.Unfolding.{basic}
use Rattle.records.specs.Records.{conditions}
use Rattle.table.specs.Decoded.{net_of}
use Rattle.pnml.specs.declared.Link.{Link}
use Rattle.pnml.specs.declared.Link.TheVariants.{Into, OutOf}
use Rattle.pnml.specs.declared.Element.{Element}
use Rattle.pnml.specs.declared.Element.TheVariants as element
use Rattle.spots.specs.declared.Spot.{Spot}
use Rattle.spots.specs.Spots.{Unfolds}
use Rattle.export_places.specs.declared.Place as declared
use Rattle.export_places.specs.declared.Place.TheVariants.{Opens, Place, Transition, Arc, Closes, Over}
use Rattle.export_places.specs.Places.{index_at, goes_on, Stands}

-- A table that unfolds, with the numbers of its unfolded conditions and events (01, Unfolding).
pub record Numbered (s : List ℕ) (events conditions transitions : ℕ) (ms us bs : List ℕ) : Type 0 where
  pub table : Unfolds s ms us bs events
  pub doubles : conditions ≡ (basic (net_of s)).conditions
  pub moves : transitions ≡ (basic (net_of s)).events

-- ---- the element at a place

-- A place of the doubled net holds a token at first where its condition holds, a second place where it does not (02, No. 1).
abbrev pub held_at : List ℕ → ℕ → ℕ → Bool
held_at start c x = cond (ltb x c) (eqb (get_or start x 0) 1) (not (eqb (get_or start (x - c) 0) 1))

-- What an arc joins, by its range and offset: the first half of the ranges are those into a transition (02, No. 1).
abbrev pub link_at : List ℕ → ℕ → Spot → Link
link_at starts half p =
    cond (ltb p.range half) (Into (get_or starts p.range 0 + p.offset) p.transition) (OutOf p.transition (get_or starts p.range 0 + p.offset))

-- The element at a place, by what lent memory holds (02, No. 1).
abbrev pub element_at : List ℕ → ℕ → List ℕ → List ℕ → declared.Place → Element
element_at s c start starts Opens = element.Opens
element_at s c start starts (Place x) = element.Place x (held_at start c x)
element_at s c start starts (Transition t) = element.Transition t
element_at s c start starts (Arc p) = element.Arc p.number (link_at starts (4 * conditions s) p)
element_at s c start starts Closes = element.Closes
element_at s c start starts Over = element.Opens

-- A place of an arc is kept at the spot, and is small.
pub record Kept (starts : List ℕ) (p : Spot) : Type 0 where
  pub here : p.range < length starts
  pub low : get_or starts p.range 0 + p.offset < 131070

-- What must hold to read the element at a place.
abbrev pub Shown : ℕ → List ℕ → declared.Place → Type 0
Shown c starts Opens = Unit {0}
Shown c starts (Place x) = x < c + c
Shown c starts (Transition t) = Unit {0}
Shown c starts (Arc p) = Kept starts p
Shown c starts Closes = Unit {0}
Shown c starts Over = Unit {0}

-- ---- from place to place

-- The place of an element by its number, the last place where there is no such element (02, No. 1).
pub record Finds (s ms us bs marks uses starts sizes : List ℕ) (i : ℕ) (p : declared.Place) : Type 0 where
  pub stands : Stands s ms us bs marks uses starts sizes p
  pub here : i < index_at (net_of s) Over → index_at (net_of s) p ≡ i
  pub past : index_at (net_of s) Over ≤ i → p ≡ Over

-- The place after one (02, No. 1).
pub record Follows (s ms us bs marks uses starts sizes : List ℕ) (place next : declared.Place) : Type 0 where
  pub stands : Stands s ms us bs marks uses starts sizes next
  pub after : goes_on place ≡ true → index_at (net_of s) next ≡ suc (index_at (net_of s) place)
