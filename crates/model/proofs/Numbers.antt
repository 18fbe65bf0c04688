-- The numbers of unfolded events and conditions: each stands at its number, no two at one, and what stands at a number has it.
use mathlib.Core.Path.{◌≡◌, refl, ap, ap₂}
use mathlib.Core.Bool.{◌&&◌}
use mathlib.Core.Option.{some}
use mathlib.Core.List.{List, [], ◌∷◌}
use lib.Dec.{T, eqb, eqb→eq, eqb_refl}
use lib.ListN.{get_elem?}
use Rattle.lists.specs.Lists.{◌∈◌}
use Rattle.lists.proofs.Bools.{and_left, and_right, and_both}
use Rattle.lists.proofs.Places.{index_at}
use Rattle.model.specs.Net.{Net}
use Rattle.model.specs.Runs.{Marker}
use Rattle.model.specs.Unfolding.{same_marker, UnfoldedCondition, ordinary, copy, unfolded_conditions, UnfoldedEvent, unfolded_events}
use Rattle.model.specs.Numbering.{same_colour, same_event, same_condition, number, condition_number}
use Rattle.model.proofs.Unfolded.{same_marker_refl, same_marker_eq}

-- ---- the tests of sameness

pub same_colour_refl : (c : List Marker) → T (same_colour c c)
same_colour_refl [] = tt
same_colour_refl (m ∷ c) = and_both (same_marker m m) (same_colour c c) (same_marker_refl m) (same_colour_refl c)

pub same_colour_eq : (c d : List Marker) → T (same_colour c d) → c ≡ d
same_colour_eq [] [] t = refl
same_colour_eq [] (k ∷ d) t = absurd t
same_colour_eq (m ∷ c) [] t = absurd t
same_colour_eq (m ∷ c) (k ∷ d) t =
    ap₂ {C = List Marker} (λ x y. x ∷ y) (same_marker_eq m k (and_left (same_marker m k) (same_colour c d) t)) (same_colour_eq c d (and_right (same_marker m k) (same_colour c d) t))

pub same_event_refl : (x : UnfoldedEvent) → T (same_event x x)
same_event_refl x = and_both (eqb x.event x.event) (same_colour x.colour x.colour) (eqb_refl x.event) (same_colour_refl x.colour)

pub same_event_eq : (x y : UnfoldedEvent) → T (same_event x y) → x ≡ y
same_event_eq x y t =
    ap₂ {C = UnfoldedEvent} (λ e c. record { event = e; colour = c })
    (eqb→eq x.event y.event (and_left (eqb x.event y.event) (same_colour x.colour y.colour) t))
    (same_colour_eq x.colour y.colour (and_right (eqb x.event y.event) (same_colour x.colour y.colour) t))

pub same_condition_refl : (p : UnfoldedCondition) → T (same_condition p p)
same_condition_refl (ordinary b) = eqb_refl b
same_condition_refl (copy b m u) =
    and_both (eqb b b) (same_marker m m && eqb u u) (eqb_refl b) (and_both (same_marker m m) (eqb u u) (same_marker_refl m) (eqb_refl u))

pub same_condition_eq : (p q : UnfoldedCondition) → T (same_condition p q) → p ≡ q
same_condition_eq (ordinary b) (ordinary d) t = ap ordinary (eqb→eq b d t)
same_condition_eq (ordinary b) (copy d k v) t = absurd t
same_condition_eq (copy b m u) (ordinary d) t = absurd t
same_condition_eq (copy b m u) (copy d k v) t =
    let r = and_right (eqb b d) (same_marker m k && eqb u v) t in
    let x : b ≡ d = eqb→eq b d (and_left (eqb b d) (same_marker m k && eqb u v) t) in
    let y : m ≡ k = same_marker_eq m k (and_left (same_marker m k) (eqb u v) r) in
    let z : u ≡ v = eqb→eq u v (and_right (same_marker m k) (eqb u v) r) in
    cc

-- ---- each stands at its number

module _ (n : Net) where
  pub number_at : (x : UnfoldedEvent) → x ∈ unfolded_events n → get_elem? (unfolded_events n) (number n x) ≡ some x
  unfolding number
  number_at x i = index_at (same_event x) x (same_event_refl x) (same_event_eq x) (unfolded_events n) i

  pub condition_at_lem : (p : UnfoldedCondition) → p ∈ unfolded_conditions n → get_elem? (unfolded_conditions n) (condition_number n p) ≡ some p
  unfolding condition_number
  condition_at_lem p i = index_at (same_condition p) p (same_condition_refl p) (same_condition_eq p) (unfolded_conditions n) i

  -- ---- no two at one number
  pub number_one : (x y : UnfoldedEvent) → x ∈ unfolded_events n → y ∈ unfolded_events n → number n x ≡ number n y → x ≡ y
  number_one x y i j q = let p = number_at x i in let r = number_at y j in cc

  pub condition_one : (p q : UnfoldedCondition) → p ∈ unfolded_conditions n → q ∈ unfolded_conditions n → condition_number n p ≡ condition_number n q → p ≡ q
  condition_one p q i j h = let x = condition_at_lem p i in let y = condition_at_lem q j in cc
