-- Where the copies of a condition for one marker stand, and that nothing else stands there.
use Prim.Native.Nat.{ℕ, zero, suc, ◌+◌, ◌*◌, ◌-◌, ◌<◌}
use native.Mathlib.Omega.{arith}
use native.Mathlib.Nat.{add-zero, suc-add, zero-add}
use mathlib.Core.Path.{◌≡◌, refl, sym, ◌∙◌, ap, subst}
use mathlib.Core.Bool.{Bool, true, false, cond}
use mathlib.Core.Logic.{inl, inr}
use mathlib.Core.Option.{some}
use mathlib.Core.List.{◌∷◌, map}
use lib.Dec.{T, eqb}
use lib.ListN.{length, get_or, get_elem?, length-map}
use borrow.Author.Tests.{eq-eqb, ne_eqb}
use Rattle.lists.specs.Lists.{mem, index, keep, count, sum, spread, ◌∈◌}
use Rattle.lists.proofs.Bools.{is_true}
use Rattle.lists.proofs.Members.{in_mem}
use Rattle.lists.proofs.Places.{in_at, at_lt, at_some, number_index}
use Rattle.lists.proofs.Positions.{at_map, spread_at, base_at}
use Rattle.lists.proofs.Products.{place_below}
use Rattle.model.specs.Net.{Net}
use Rattle.model.specs.Runs.{Marker, by_event}
use Rattle.model.specs.Unfolding.{same_marker, ordinary, copy, markers, users, copies, unfolded_conditions}
use Rattle.model.specs.Numbering.{width, counted_condition}
use Rattle.model.proofs.Unfolded.{kind_of, pair_of, index_events}
use Rattle.model.proofs.Counts.{marker_at_lem, width_copies, counted_condition_back}
use Rattle.model.proofs.Sets.{conditions_paper, markers_paper}
use Rattle.tally.specs.Having.{having}
use Rattle.copies.specs.Writing.{Within}

-- ---- markers by event

-- the place of a number that is kept is how many before it are kept
place_keep : (t : ℕ → Bool) (i d k : ℕ) → t (i + d) ≡ true → index (eqb (i + d)) (keep t (count i (d + suc k))) ≡ length (keep t (count i d))
place_keep t i zero k h = rw (zero-add (suc k), add-zero i) (rw (rw (add-zero i) at h, eq-eqb i i refl))
place_keep t i (suc d) k h =
    let z : suc i + d ≡ i + suc d = omega arith in
    rw (suc-add d (suc k)) (go (t i) (subst (λ (x : ℕ). index (eqb x) (keep t (count (suc i) (d + suc k))) ≡ length (keep t (count (suc i) d))) z (place_keep t (suc i) d k (ap t z ∙ h))))
  where
    go : (b : Bool) → index (eqb (i + suc d)) (keep t (count (suc i) (d + suc k))) ≡ length (keep t (count (suc i) d))
        → index (eqb (i + suc d)) (cond b (i ∷ keep t (count (suc i) (d + suc k))) (keep t (count (suc i) (d + suc k)))) ≡ length (cond b (i ∷ keep t (count (suc i) d)) (keep t (count (suc i) d)))
    go true ih = rw (ne_eqb (i + suc d) i (omega arith)) (ap suc ih)
    go false ih = ih

module _ (n : Net) where
  -- The range of a condition's copies for one marker.
  abbrev pub range_of : ℕ → Marker → ℕ
  range_of b x = sum (width n) b + index (same_marker x) (markers n b) * length (users n b)

  pub event_place : (b e : ℕ) → e < n.events → T (mem b (n.postconditions e)) → index (same_marker (by_event e)) (markers n b) ≡ 1 + length (having n true b e)
  unfolding markers
  event_place b e h t =
      let f : ℕ → Bool = λ e. mem b (n.postconditions e) in
      let whole : e + suc (n.events - suc e) ≡ n.events = omega arith in
      let at : index (eqb e) (keep f (count 0 (e + suc (n.events - suc e)))) ≡ length (keep f (count 0 e))
      = rw zero-add at (place_keep f 0 e (n.events - suc e) (rw zero-add (is_true (f e) t))) in
      omega (arith, index_events e (keep f (count 0 n.events)), rw whole at at)

  -- what stands in such a range is a copy for the marker
  pub copy_at : (b : ℕ) (x : Marker) → b < n.conditions → n.persistent b ≡ true → x ∈ markers n b → (k : ℕ) → Within (range_of b x) (length (users n b)) k
      → (v : ℕ) × (get_elem? (unfolded_conditions n) k ≡ some (copy b x v))
  unfolding unfolded_conditions copies width
  copy_at b x h p i k w =
      let l = length (users n b) in
      let q = index (same_marker x) (markers n b) in
      let u = k - range_of b x in
      let ul : u < l = omega (arith, w.0, w.1) in
      let low = place_below q (length (markers n b)) l u (at_lt (markers n b) q (marker_at_lem x (markers n b) i)) ul in
      let inside : q * l + u < width n b = rw p low in
      let k_is : sum (width n) b + (q * l + u) ≡ k = omega (arith, w.0) in
      let v = get_or (users n b) u 0 in
      let found : get_elem? (spread (λ m. map (copy b m) (users n b)) (markers n b)) (q * l + u) ≡ some (copy b x v)
      = spread_at (λ m. map (copy b m) (users n b)) l (λ m. length-map (users n b) (copy b m)) (markers n b) q u (marker_at_lem x (markers n b) i) ul
      ∙ at_map (copy b x) (users n b) u (at_some (users n b) u 0 ul) in
      (v, ap (λ (z : ℕ). get_elem? (unfolded_conditions n) z) (sym k_is) ∙ base_at (copies n) (width n) (width_copies n) n.conditions b (q * l + u) h inside ∙ rw p found)

  module _ (k b : ℕ) where
    pub ordinary_place : get_elem? (unfolded_conditions n) k ≡ some (ordinary b) → sum (width n) b ≡ k
    unfolding counted_condition
    ordinary_place h = counted_condition_back n k (ordinary b) h

    pub ordinary_kind : get_elem? (unfolded_conditions n) k ≡ some (ordinary b) → n.persistent b ≡ false
    ordinary_kind h = kind_of n (ordinary b) (in_at (unfolded_conditions n) k h)

    pub ordinary_below : get_elem? (unfolded_conditions n) k ≡ some (ordinary b) → b < n.conditions
    ordinary_below h = elim ((conditions_paper n (ordinary b)).0 (in_at (unfolded_conditions n) k h)) [
      | inl x ↦ (let z : b ≡ x.0 = cc x.2 in omega (arith, x.1.0))
      | inr x ↦ (let z : ◌≡◌ {A = ℕ} 0 1 = cc x.6 in absurd (omega arith))
    ]

    module _ (x : Marker) (v : ℕ) (h : get_elem? (unfolded_conditions n) k ≡ some (copy b x v)) where
      pub copy_kind : n.persistent b ≡ true
      copy_kind = kind_of n (copy b x v) (in_at (unfolded_conditions n) k h)

      pub copy_below : b < n.conditions
      copy_below = elim ((conditions_paper n (copy b x v)).0 (in_at (unfolded_conditions n) k h)) [
        | inl y ↦ (let z : ◌≡◌ {A = ℕ} 0 1 = cc y.2 in absurd (omega arith))
        | inr y ↦ (let z : b ≡ y.0 = cc y.6 in omega (arith, y.3.0))
      ]

      pub copy_marker : x ∈ markers n b
      copy_marker = (pair_of n (copy b x v) (in_at (unfolded_conditions n) k h)).0

      -- a copy stands in the range of its marker
      pub copy_within : Within (range_of b x) (length (users n b)) k
      unfolding counted_condition
      copy_within =
          let at : sum (width n) b + (index (same_marker x) (markers n b) * length (users n b) + index (eqb v) (users n b)) ≡ k
          = counted_condition_back n k (copy b x v) h in
          let low = at_lt (users n b) (index (eqb v) (users n b)) (number_index v (users n b) (pair_of n (copy b x v) (in_at (unfolded_conditions n) k h)).1) in
          (omega (arith, at), omega (arith, at, low))

    -- an event that marks is one of the net's, with the condition as postcondition
    pub event_marking : (e : ℕ) → by_event e ∈ markers n b → (e < n.events) × T (mem b (n.postconditions e))
    event_marking e i = elim ((markers_paper n b (by_event e)).0 i) [
      | inl x ↦ (let z : e ≡ x.0 = cc x.3 in (rw z x.1, rw z (in_mem x.2)))
      | inr x ↦ (let z : ◌≡◌ {A = ℕ} 0 1 = cc x in absurd (omega arith))
    ]
