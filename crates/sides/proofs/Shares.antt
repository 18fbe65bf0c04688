-- What an unfolded event has of one condition: the numbers of its share on each side are those of the unfolded conditions there.
use mathlib.Core.Path.{◌≡◌, refl, sym, ◌∙◌, ap₂, subst}
use mathlib.Core.Bool.{Bool, true, false, not, ◌&&◌, ◌||◌, and-true, cond}
use mathlib.Core.List.{List, [], ◌∷◌}
use Prim.Native.Nat.{ℕ, ◌+◌, ◌*◌, ◌-◌, ◌<◌}
use lib.Dec.{eqb}
use lib.ListN.{length, get_or}
use native.Mathlib.Omega.{arith}
use borrow.Author.Tests.{le-ltb, lt-ltb}
use Rattle.lists.specs.Lists.{mem, sum, places_from}
use Rattle.model.specs.Net.{Net}
use Rattle.model.specs.Runs.{Marker, at_start, by_event}
use Rattle.model.specs.Unfolding.{same_marker, UnfoldedCondition, ordinary, copy, markers, users, copies, UnfoldedEvent, reads, picked, takes, puts, follows}
use Rattle.model.specs.Numbering.{width}
use Rattle.segments.specs.declared.Segment.{Segment}
use Rattle.segments.specs.Ranges.{within}
use Rattle.segments.proofs.Places.{inside, nothing_in}
use Rattle.segments.proofs.Spans.{has, Between, alone_between, alone_has, one_inside, joined_has, joined_between}
use Rattle.segments.proofs.Copied.{CopyAt, is_placed, first, size, first_most, put_range, not_taken, taken, taken_most, taken_one}
use Rattle.sides.specs.Sides.{sided, added_on}
use Rattle.sides.specs.Shares.{share_of, side_of}
use Rattle.sides.specs.declared.Side.{Side}
use Rattle.sides.specs.declared.Side.TheVariants.{Takes, Fills, Puts, Empties}
use Rattle.sides.specs.declared.Share.{Share}
use Rattle.sides.proofs.Without.{parted_has, parted_between}

-- on a side stands what is taken, what is marked and not taken, either, or nothing
abbrev on_side : Side → Bool → Bool → Bool
on_side Takes t m = t
on_side Fills t m = m && not t
on_side Puts t m = t || m
on_side Empties t m = false

filled_is : (t m : Bool) → ((t || m) && not (t && not false)) ≡ (m && not t)
filled_is true true = refl
filled_is true false = refl
filled_is false m = refl

none_emptied : (t m : Bool) → (t && not ((t || m) && not false)) ≡ false
none_emptied true m = refl
none_emptied false m = refl

-- ---- a persistent condition

module _ (n : Net) (b : ℕ) (p : n.persistent b ≡ true) (e : ℕ) (h : e < n.events) (colour : List Marker) where
  abbrev x : UnfoldedEvent
  x = record { event = e; colour = colour }

  abbrev base : ℕ
  base = sum (width n) b

  abbrev most : ℕ
  most = base + length (markers n b) * length (users n b)

  abbrev from : ℕ
  from = first n b p true e h colour

  abbrev wide : ℕ
  wide = size n b p true e h colour

  copy_sided : (side : Side) (m : Marker) (u : ℕ) → sided n side x (copy b m u) ≡ on_side side (takes n x (copy b m u)) (same_marker m (by_event e) && mem b (n.postconditions e))
  unfolding puts follows
  copy_sided Takes m u = refl
  copy_sided Fills m u = filled_is (takes n x (copy b m u)) (same_marker m (by_event e) && mem b (n.postconditions e))
  copy_sided Puts m u = refl
  copy_sided Empties m u = none_emptied (takes n x (copy b m u)) (same_marker m (by_event e) && mem b (n.postconditions e))

  -- a segment that has what is on a side is what the condition adds to it
  on_side_lem : (side : Side) (g : Segment) (t : ℕ → Bool) → Between base most g
      → ((r : ℕ) (y : UnfoldedCondition) (c : CopyAt n b p r y) → takes n x (copy b c.marker c.event) ≡ t (base + r))
      → ((k : ℕ) → has g k ≡ on_side side (t k) (inside from wide k))
      → within g ≡ added_on n side x b
  unfolding added_on
  on_side_lem side g t l f w =
      is_placed n b p (sided n side x) g l
      (λ r y c. subst (λ (z : UnfoldedCondition). sided n side x z ≡ has g (base + r)) c.is
      (copy_sided side c.marker c.event
      ∙ ap₂ {C = Bool} (on_side side) (f r y c) (put_range n b p true e h colour r y c true)
      ∙ sym (w (base + r))))

  -- what the event does not read
  pub unread_shared : mem b (n.preconditions e) ≡ false → (side : Side) → within (side_of side (share_of from 0 false from wide)) ≡ added_on n side x b
  unread_shared f side =
      on_side_lem side (side_of side (share_of from 0 false from wide)) (λ k. false) (lies side) (λ r y c. not_taken n b p true e h colour f c.marker c.event) (λ k. holds side k)
    where
      lies : (z : Side) → Between base most (side_of z (share_of from 0 false from wide))
      lies Takes = alone_between base most from 0 (omega arith) (omega (arith, first_most n b p true e h colour))
      lies Fills = alone_between base most from wide (omega arith) (first_most n b p true e h colour)
      lies Puts = alone_between base most from wide (omega arith) (first_most n b p true e h colour)
      lies Empties = alone_between base most from 0 (omega arith) (omega (arith, first_most n b p true e h colour))

      holds : (z : Side) (k : ℕ) → has (side_of z (share_of from 0 false from wide)) k ≡ on_side z false (inside from wide k)
      holds Takes k = alone_has from 0 k ∙ nothing_in from k
      holds Fills k = alone_has from wide k ∙ sym (and-true (inside from wide k))
      holds Puts k = alone_has from wide k
      holds Empties k = alone_has from 0 k ∙ nothing_in from k

  -- what it reads, with the marker at place i
  module _ (f : mem b (n.preconditions e) ≡ true) (i : ℕ) (l : i < length (markers n b))
      (q : (m : Marker) → picked (reads n e) colour b m ≡ same_marker m (get_or (markers n b) i at_start)) where
    abbrev one : ℕ
    one = taken n b p true e h colour f i l q

    pub read_shared : (side : Side) → within (side_of side (share_of one 1 true from wide)) ≡ added_on n side x b
    read_shared side =
        on_side_lem side (side_of side (share_of one 1 true from wide)) (λ k. eqb k one) (lies side) (λ r y c. taken_one n b p true e h colour f i l q r y c) (λ k. holds side k)
      where
        low : one < most
        low = taken_most n b p true e h colour f i l q

        lies : (z : Side) → Between base most (side_of z (share_of one 1 true from wide))
        lies Takes = alone_between base most one 1 (omega arith) (omega (arith, low))
        lies Fills = parted_between one from wide base most (omega arith) (first_most n b p true e h colour)
        lies Puts = joined_between one from wide base most (omega arith) low (omega arith) (first_most n b p true e h colour)
        lies Empties = alone_between base most one 0 (omega arith) (omega (arith, low))

        holds : (z : Side) (k : ℕ) → has (side_of z (share_of one 1 true from wide)) k ≡ on_side z (eqb k one) (inside from wide k)
        holds Takes k = alone_has one 1 k ∙ one_inside one k
        holds Fills k = parted_has one from wide k
        holds Puts k = joined_has one from wide k
        holds Empties k = alone_has one 0 k ∙ nothing_in one k

-- ---- an ordinary condition

module _ (base : ℕ) where
  -- whether it is taken, whether put, and whether it is under the old rule
  abbrev self : Bool → Bool → Bool → Share
  self t m o = share_of base (cond t 1 0) (t && m && not o) base (cond m 1 0)

  abbrev only : Side → Bool → Bool → Bool → Bool
  only Takes t m o = t
  only Fills t m o = m && not (t && not o)
  only Puts t m o = m
  only Empties t m o = t && not (m && not o)

  self_side : (side : Side) (t m o : Bool) → within (side_of side (self t m o)) ≡ cond (only side t m o) (base ∷ []) []
  self_side Takes true m o = refl
  self_side Takes false m o = refl
  self_side Fills true true true = refl
  self_side Fills true true false =
      let z : base - base ≡ 0 = omega arith in
      let w : (base + 1) - (base + 1) ≡ 0 = omega arith in
      rw (le-ltb base base (omega arith), lt-ltb base (base + 1) (omega arith), z, w)
  self_side Fills true false o = refl
  self_side Fills false true o = refl
  self_side Fills false false o = refl
  self_side Puts true true true = refl
  self_side Puts true true false = rw (le-ltb base base (omega arith), lt-ltb base (base + 1) (omega arith))
  self_side Puts true false o = refl
  self_side Puts false true o = refl
  self_side Puts false false o = refl
  self_side Empties true true true = refl
  self_side Empties true true false = refl
  self_side Empties true false o = refl
  self_side Empties false m o = refl

module _ (n : Net) (b : ℕ) (p : n.persistent b ≡ false) (x : UnfoldedEvent) where
  pub ordinary_shared : (side : Side)
      → within (side_of side (self (sum (width n) b) (mem b (n.preconditions x.event)) (mem b (n.postconditions x.event)) (n.old b))) ≡ added_on n side x b
  unfolding added_on copies takes puts follows
  ordinary_shared side = rw p (self_side (sum (width n) b) side (mem b (n.preconditions x.event)) (mem b (n.postconditions x.event)) (n.old b) ∙ same side)
    where
      same : (z : Side) → cond (only (sum (width n) b) z (mem b (n.preconditions x.event)) (mem b (n.postconditions x.event)) (n.old b)) (sum (width n) b ∷ []) []
          ≡ places_from (sum (width n) b) (sided n z x) (ordinary b ∷ [])
      same Takes = refl
      same Fills = refl
      same Puts = refl
      same Empties = refl
