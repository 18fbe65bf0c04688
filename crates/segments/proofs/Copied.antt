-- What an unfolded event takes and puts within the copies of one condition.
use mathlib.Core.Path.{◌≡◌, refl, sym, ◌∙◌, ap, ap₂, subst}
use mathlib.Core.Bool.{Bool, true, false, ◌&&◌, ◌||◌, and-false, cond}
use mathlib.Core.Option.{some}
use mathlib.Core.List.{List, [], ◌∷◌, ◌++◌, map}
use Prim.Native.Nat.{ℕ, ◌+◌, ◌*◌, ◌-◌, ◌≤◌, ◌<◌}
use lib.Dec.{T, eqb, eqb→eq, eqb_refl}
use lib.ListN.{get_elem?, length, get_or, length-map}
use native.Mathlib.Nat.{mul-le-mul_right}
use native.Mathlib.Omega.{arith}
use borrow.Author.Tests.{eq-eqb}
use Rattle.lists.specs.Lists.{mem, sum, count, places_from}
use Rattle.lists.proofs.Bools.{T_of, is_false, not-true, iff, and_left, and_right, and_both, or_none}
use Rattle.lists.proofs.Members.{in_mem, keep_out}
use Rattle.lists.proofs.Places.{at_lt, at_some}
use Rattle.lists.proofs.Positions.{at_map_out, spread_where}
use Rattle.lists.proofs.Products.{one_place, place_below, place_most}
use Rattle.model.specs.Net.{Net}
use Rattle.model.specs.Runs.{Marker, at_start, by_event}
use Rattle.model.specs.Unfolding.{same_marker, UnfoldedCondition, ordinary, copy, markers, users, copies, UnfoldedEvent, reads, picked, takes, puts}
use Rattle.model.specs.Numbering.{width}
use Rattle.model.proofs.Unfolded.{same_marker_refl, same_marker_eq, picked_in}
use Rattle.model.proofs.Counts.{distinct_markers, distinct_users, width_copies}
use Rattle.tally.specs.Having.{list_of, having}
use Rattle.segments.specs.declared.Segment.{Segment}
use Rattle.segments.specs.Ranges.{within, alone_of, joined_of, touching, added, size_if}
use Rattle.segments.proofs.Places.{inside, inside_in, inside_out, nothing_in, places_two}
use Rattle.segments.proofs.Having.{user_here, marker_here, marker_most}
use Rattle.segments.proofs.Spans.{has, Between, alone_between, alone_has, joined_has, joined_between}

module _ (n : Net) (b : ℕ) (p : n.persistent b ≡ true) where
  -- the copy at a place: which marker's and which user's
  pub record CopyAt (r : ℕ) (y : UnfoldedCondition) : Type 0 where
    pub place : ℕ
    pub user : ℕ
    pub marker : Marker
    pub event : ℕ
    pub sums : r ≡ place * length (users n b) + user
    pub at_place : get_elem? (markers n b) place ≡ some marker
    pub at_user : get_elem? (users n b) user ≡ some event
    pub is : copy b marker event ≡ y

  copy_at : (r : ℕ) (y : UnfoldedCondition) → get_elem? (copies n b) r ≡ some y → CopyAt r y
  unfolding copies
  copy_at r y h =
      let x = spread_where (λ m. map (copy b m) (users n b)) (length (users n b)) (λ m. length-map (users n b) (copy b m)) y (markers n b) r (rw p at h) in
      let z = at_map_out (copy b x.value) (users n b) x.rest x.at_rest in
      record { place = x.part; user = x.rest; marker = x.value; event = z.0; sums = x.sums; at_place = x.at_part; at_user = z.1; is = z.2 }

  copies_length : length (copies n b) ≡ length (markers n b) * length (users n b)
  unfolding width
  copies_length = width_copies n b ∙ rw p

  -- a segment that has the copies which pass a test is their places
  pub is_placed : (t : UnfoldedCondition → Bool) (g : Segment) → Between (sum (width n) b) (sum (width n) b + length (markers n b) * length (users n b)) g
      → ((r : ℕ) (y : UnfoldedCondition) → CopyAt r y → t y ≡ has g (sum (width n) b + r)) → within g ≡ places_from (sum (width n) b) t (copies n b)
  is_placed t g l f =
      sym (places_two t (copies n b) (sum (width n) b) g.first g.size g.next g.more l.from l.then
      (omega (arith, l.upto, copies_length)) (λ r y i. f r y (copy_at r y i)))

  module _ (post : Bool) (e : ℕ) (h : e < n.events) (colour : List Marker) where
    abbrev pub x : UnfoldedEvent
    x = record { event = e; colour = colour }

    abbrev pub base : ℕ
    base = sum (width n) b

    abbrev pub first : ℕ
    first = base + (1 + length (having n true b e)) * length (users n b)

    abbrev pub size : ℕ
    size = size_if post (mem b (list_of n post e)) (length (users n b))

    touch_is : (t : Bool) (m : Marker) (u : ℕ) → touching n t x (copy b m u) ≡ (takes n x (copy b m u) || (t && (same_marker m (by_event e) && mem b (n.postconditions e))))
    unfolding puts
    touch_is true m u = refl
    touch_is false m u = sym (or_none (takes n x (copy b m u)))

    -- the copies that the event marks are one range
    pub put_range : (r : ℕ) (y : UnfoldedCondition) (c : CopyAt r y) (t : Bool)
        → (t && (same_marker c.marker (by_event e) && mem b (n.postconditions e))) ≡ inside first (size_if t (mem b (list_of n t e)) (length (users n b))) (base + r)
    put_range r y c false = sym (nothing_in first (base + r))
    put_range r y c true = go (mem b (n.postconditions e)) refl
      where
        q : ℕ
        q = 1 + length (having n true b e)

        go : (t : Bool) → mem b (n.postconditions e) ≡ t → (same_marker c.marker (by_event e) && t) ≡ inside first (cond t (length (users n b)) 0) (base + r)
        go false f = and-false (same_marker c.marker (by_event e)) ∙ sym (nothing_in first (base + r))
        go true f =
            iff (same_marker c.marker (by_event e) && true) (inside first (length (users n b)) (base + r))
            (λ t.
            let m : c.marker ≡ by_event e = same_marker_eq c.marker (by_event e) (and_left (same_marker c.marker (by_event e)) true t) in
            let z : c.place ≡ q = distinct_markers n b (by_event e) c.place q (c.at_place ∙ ap some m) (marker_here n b e h f) in
            let l = at_lt (users n b) c.user c.at_user in
            T_of (inside first (length (users n b)) (base + r))
            (inside_in first (length (users n b)) (base + r) (omega (arith, c.sums, ap (λ (k : ℕ). k * length (users n b)) z)) (omega (arith, c.sums, l, ap (λ (k : ℕ). k * length (users n b)) z))))
            (λ t.
            let i = inside_out first (length (users n b)) (base + r) t in
            let l = at_lt (users n b) c.user c.at_user in
            let w : r ≡ q * length (users n b) + (r - q * length (users n b)) = omega (arith, i.0) in
            let z = one_place c.place q (length (users n b)) c.user (r - q * length (users n b)) l (omega (arith, i.1)) (sym c.sums ∙ w) in
            let m : some c.marker ≡ some (by_event e) = sym c.at_place ∙ ap (λ (k : ℕ). get_elem? (markers n b) k) z.0 ∙ marker_here n b e h f in
            let m₂ : c.marker ≡ by_event e = cc in
            and_both (same_marker c.marker (by_event e)) true (rw m₂ (same_marker_refl (by_event e))) tt)

    pub first_most : first + size ≤ base + length (markers n b) * length (users n b)
    first_most = go post
      where
        q : ℕ
        q = 1 + length (having n true b e)

        none_put : q * length (users n b) ≤ length (markers n b) * length (users n b)
        none_put = mul-le-mul_right {m = q} {n = length (markers n b)} (length (users n b)) (marker_most n b e h)

        go : (t : Bool) → first + size_if t (mem b (list_of n t e)) (length (users n b)) ≤ base + length (markers n b) * length (users n b)
        go false = omega (arith, none_put)
        go true = put (mem b (n.postconditions e)) refl
          where
            put : (t : Bool) → mem b (n.postconditions e) ≡ t → first + cond t (length (users n b)) 0 ≤ base + length (markers n b) * length (users n b)
            put false f = omega (arith, none_put)
            put true f =
                let l = at_lt (markers n b) q (marker_here n b e h f) in
                omega (arith, place_most q (length (markers n b)) (length (users n b)) l)

    -- a segment that has what the event touches is what the condition adds
    is_added : (g : Segment) → Between base (base + length (markers n b) * length (users n b)) g
        → ((r : ℕ) (y : UnfoldedCondition) → CopyAt r y → touching n post x y ≡ has g (base + r)) → within g ≡ added n post x b
    unfolding added
    is_added g l f = is_placed (touching n post x) g l f

    pub not_taken : mem b (n.preconditions e) ≡ false → (m : Marker) (u : ℕ) → takes n x (copy b m u) ≡ false
    unfolding takes reads
    not_taken f m u =
        is_false (eqb u e && picked (reads n e) colour b m) (λ t.
        not-true (mem b (n.preconditions e)) f (in_mem (keep_out n.persistent (n.preconditions e) (picked_in (reads n e) colour b m (and_right (eqb u e) (picked (reads n e) colour b m) t))).0))

    -- what the event does not read
    pub unread_added : mem b (n.preconditions e) ≡ false → within (alone_of first size) ≡ added n post x b
    unread_added f =
        is_added (alone_of first size) (alone_between base _ first size (omega arith) first_most)
        (λ r y c. subst (λ (z : UnfoldedCondition). touching n post x z ≡ has (alone_of first size) (base + r)) c.is
        (touch_is post c.marker c.event
        ∙ ap (λ (z : Bool). z || (post && (same_marker c.marker (by_event e) && mem b (n.postconditions e)))) (not_taken f c.marker c.event)
        ∙ put_range r y c post ∙ sym (alone_has first size (base + r))))

    -- what it reads, with the marker at place i
    module _ (f : mem b (n.preconditions e) ≡ true) (i : ℕ) (l : i < length (markers n b))
        (k : (m : Marker) → picked (reads n e) colour b m ≡ same_marker m (get_or (markers n b) i at_start)) where
      abbrev pub taken : ℕ
      taken = base + i * length (users n b) + length (having n false b e)

      pub own : length (having n false b e) < length (users n b)
      own = at_lt (users n b) (length (having n false b e)) (user_here n b e h f)

      pub taken_one : (r : ℕ) (y : UnfoldedCondition) (c : CopyAt r y) → takes n x (copy b c.marker c.event) ≡ eqb (base + r) taken
      unfolding takes
      taken_one r y c =
          iff (eqb c.event e && picked (reads n e) colour b c.marker) (eqb (base + r) taken)
          (λ t.
          let u : c.event ≡ e = eqb→eq c.event e (and_left (eqb c.event e) (picked (reads n e) colour b c.marker) t) in
          let m : c.marker ≡ get_or (markers n b) i at_start
          = same_marker_eq c.marker (get_or (markers n b) i at_start) (subst T (k c.marker) (and_right (eqb c.event e) (picked (reads n e) colour b c.marker) t)) in
          let v : c.user ≡ length (having n false b e) = distinct_users n b e c.user (length (having n false b e)) (c.at_user ∙ ap some u) (user_here n b e h f) in
          let w : c.place ≡ i = distinct_markers n b c.marker c.place i c.at_place (at_some (markers n b) i at_start l ∙ ap some (sym m)) in
          T_of (eqb (base + r) taken) (eq-eqb (base + r) taken (omega (arith, c.sums, ap (λ (z : ℕ). z * length (users n b)) w))))
          (λ t.
          let q : base + r ≡ taken = eqb→eq (base + r) taken t in
          let z = one_place c.place i (length (users n b)) c.user (length (having n false b e)) (at_lt (users n b) c.user c.at_user) own (omega (arith, c.sums)) in
          let m : some c.marker ≡ some (get_or (markers n b) i at_start) = sym c.at_place ∙ ap (λ (k : ℕ). get_elem? (markers n b) k) z.0 ∙ at_some (markers n b) i at_start l in
          let m₂ : c.marker ≡ get_or (markers n b) i at_start = cc in
          let u : some c.event ≡ some e = sym c.at_user ∙ ap (λ (k : ℕ). get_elem? (users n b) k) z.1 ∙ user_here n b e h f in
          let u₂ : c.event ≡ e = cc in
          and_both (eqb c.event e) (picked (reads n e) colour b c.marker) (rw u₂ (eqb_refl e))
          (subst T (sym (k c.marker)) (rw m₂ (same_marker_refl (get_or (markers n b) i at_start)))))

      pub taken_most : taken < base + length (markers n b) * length (users n b)
      taken_most = omega (arith, place_below i (length (markers n b)) (length (users n b)) (length (having n false b e)) l own)

      pub read_added : within (joined_of taken first size) ≡ added n post x b
      read_added =
          is_added (joined_of taken first size)
          (joined_between taken first size base _ (omega arith) taken_most (omega arith) first_most)
          (λ r y c. subst (λ (z : UnfoldedCondition). touching n post x z ≡ has (joined_of taken first size) (base + r)) c.is
          (touch_is post c.marker c.event
          ∙ ap₂ {C = Bool} (λ u v. u || v) (taken_one r y c) (put_range r y c post)
          ∙ sym (joined_has taken first size (base + r))))

-- an ordinary condition stands for itself
module _ (n : Net) (b : ℕ) (p : n.persistent b ≡ false) (post : Bool) (x : UnfoldedEvent) where
  pub ordinary_added : within (alone_of (sum (width n) b) (size_if true (mem b (list_of n post x.event)) 1)) ≡ added n post x b
  unfolding added copies takes puts
  ordinary_added = rw p (go post)
    where
      alone : (t : Bool) → count (sum (width n) b) (cond t 1 0) ++ [] ≡ cond t (sum (width n) b ∷ []) []
      alone true = refl
      alone false = refl

      go : (t : Bool) → within (alone_of (sum (width n) b) (size_if true (mem b (list_of n t x.event)) 1)) ≡ places_from (sum (width n) b) (touching n t x) (ordinary b ∷ [])
      go true = alone (mem b (n.postconditions x.event))
      go false = alone (mem b (n.preconditions x.event))
