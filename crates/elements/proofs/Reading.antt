-- The element at a place is that of its number, and its text is short.
use Prim.Native.Nat.{ℕ, ◌+◌, ◌*◌, ◌≤◌, ◌<◌}
use mathlib.Core.Path.{◌≡◌, sym, ◌∙◌, ap, subst}
use mathlib.Core.Bool.{Bool, true, false, cond}
use mathlib.Core.List.{List}
use lib.Dec.{ltb}
use lib.ListN.{length, get_or, get_or-eq_default}
use native.Mathlib.Omega.{arith}
use Rattle.lists.proofs.Places.{at_lt}
use Rattle.model.specs.Unfolding.{basic}
use Rattle.records.specs.Records.{conditions}
use Rattle.table.specs.Decoded.{net_of}
use Rattle.segments.proofs.Listed.{all_conditions}
use Rattle.pnml.specs.declared.Link.TheVariants.{Into, OutOf}
use Rattle.pnml.specs.declared.Element.{Element}
use Rattle.pnml.specs.declared.Element.TheVariants as element
use Rattle.pnml.specs.Elements.{elements}
use Rattle.pnml.specs.Text.{text_of}
use Rattle.pnml.specs.Needs.{most_bytes, Joins, Small}
use Rattle.pnml.proofs.Long.{short}
use Rattle.arcs.specs.Arcs.{exported}
use Rattle.spots.specs.declared.Spot.{Spot}
use Rattle.spots.specs.Spots.{Spotted}
use Rattle.spots.proofs.Spots.{spot_few, owned_low}
use Rattle.export_places.specs.declared.Place as declared
use Rattle.export_places.specs.declared.Place.TheVariants.{Opens, Place, Transition, Arc, Closes, Over}
use Rattle.export_places.specs.Places.{index_at, Stands}
use Rattle.export_places.specs.Needs.{element_at, Shown}
use Rattle.export_places.proofs.Places.{places_are, transitions_are, numbered_few}
use Rattle.elements.specs.Calls.{elements_of, element_text}
use Rattle.elements.specs.Needs.{Ready}
use Rattle.elements.proofs.Elements.{links, elements_long, at_opens, at_place, at_transition, at_arc, at_closes, links_long}
use Rattle.elements.proofs.Links.{spot_kept, link_is, held_is}

-- There are as many elements as places but the last.
pub elements_all : (s : List ℕ) → length (elements_of s) ≡ index_at (net_of s) Over
unfolding elements_of
elements_all s = elements_long (exported (net_of s)) ∙ omega (arith, links_long (net_of s))

module _ (s ms us bs start : List ℕ) {events c m : ℕ} (h : Ready s events c m ms us bs start) (marks uses starts sizes : List ℕ) where
  in_doubles : (x : ℕ) → x < (exported (net_of s)).places → x < c + c
  in_doubles x w = omega (arith, places_are (net_of s), h.numbered.doubles)

  half_is : {p : Spot} → Spotted s ms us bs marks uses starts sizes p → 4 * conditions s ≡ 4 * (net_of s).conditions
  half_is w = ap (λ (k : ℕ). 4 * k) (all_conditions w.opened.owned)

  pub element_is : (place : declared.Place) → Stands s ms us bs marks uses starts sizes place → element_at s c start starts place ≡ get_or (elements_of s) (index_at (net_of s) place) element.Opens
  unfolding elements_of
  element_is Opens w = sym (at_opens (exported (net_of s)))
  element_is (Place x) w =
      ap (element.Place x) (held_is (net_of s) start c h.numbered.doubles h.begun x (in_doubles x w)) ∙ sym (at_place (exported (net_of s)) x w)
  element_is (Transition t) w = sym (at_transition (exported (net_of s)) t w)
  element_is (Arc p) w =
      let there = link_is w (4 * conditions s) (half_is w) in
      sym (at_arc (exported (net_of s)) p.number (at_lt (links (exported (net_of s))) p.number there) there)
  element_is Closes w =
      sym (at_closes (exported (net_of s)))
      ∙ ap (λ (k : ℕ). get_or (elements (exported (net_of s))) (1 + ((exported (net_of s)).places + ((exported (net_of s)).transitions + k))) element.Opens) (links_long (net_of s))
  element_is Over w =
      sym (get_or-eq_default (elements (exported (net_of s))) element.Opens (omega (arith, elements_long (exported (net_of s)), links_long (net_of s))))

  pub shown_there : (place : declared.Place) → Stands s ms us bs marks uses starts sizes place → Shown c starts place
  shown_there Opens w = tt
  shown_there (Place x) w = in_doubles x w
  shown_there (Transition t) w = tt
  shown_there (Arc p) w = spot_kept w
  shown_there Closes w = tt
  shown_there Over w = tt

  small_link : (x t : ℕ) → x < 131070 → t < 65535 → (b : Bool) → Joins (cond b (Into x t) (OutOf t x))
  small_link x t l k true = (omega arith, omega arith)
  small_link x t l k false = (omega arith, omega arith)

  pub small_there : (place : declared.Place) → Stands s ms us bs marks uses starts sizes place → Small (element_at s c start starts place)
  small_there Opens w = tt
  small_there (Place x) w = omega (arith, in_doubles x w, (numbered_few h.numbered).0)
  small_there (Transition t) w = omega (arith, transitions_are (net_of s), h.numbered.moves, (numbered_few h.numbered).1)
  small_there (Arc p) w =
      let o = w.opened in (
        omega (arith, spot_few w),
        small_link (get_or starts p.range 0 + p.offset) p.transition (spot_kept w).low
            (omega (arith, o.told, owned_low o.owned, h.numbered.table.laid.few_events)) (ltb p.range (4 * conditions s)),
      )
  small_there Closes w = tt
  small_there Over w = tt

  -- ---- the text at a place

  module _ (place : declared.Place) (w : Stands s ms us bs marks uses starts sizes place) (x : Element) (e : x ≡ element_at s c start starts place) where
    pub text_is : text_of c x ≡ element_text s (index_at (net_of s) place)
    unfolding element_text
    text_is =
        ap (λ (k : ℕ). text_of k x) h.numbered.doubles
        ∙ ap (text_of (basic (net_of s)).conditions) (e ∙ element_is place w)

    pub text_short : (room : ℕ) → most_bytes ≤ room → length (text_of c x) ≤ room
    text_short room l = omega (arith, short c x (subst Small (sym e) (small_there place w)))
