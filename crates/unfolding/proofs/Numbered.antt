-- What stands at an unfolded event's number, and which places the colours of its event have.
use Prim.Native.Nat.{ℕ, suc, ◌+◌, ◌<◌}
use native.Mathlib.Omega.{arith}
use mathlib.Core.Path.{◌≡◌, refl, sym, subst}
use mathlib.Core.List.Memᴰ
use mathlib.Core.List.{List, [], ◌∷◌, map}
use mathlib.Core.Bool.{Bool, true, false, cond}
use lib.Dec.{T, ltb, lt→ltb}
use lib.ListN.{length}
use borrow.Author.Tests.{lt-ltb, ltb-true}
use Rattle.lists.specs.Lists.{index, sum, ◌∈◌}
use Rattle.lists.proofs.Bools.{T_of, and_both, and-true}
use Rattle.lists.proofs.Places.{at_lt, at_get_d}
use Rattle.lists.proofs.Products.{place_below}
use Rattle.model.specs.Net.{Net}
use Rattle.model.specs.Runs.{Marker}
use Rattle.model.specs.Unfolding.{same_marker, markers, reads, unfolded_events, origin, basic}
use Rattle.model.specs.Numbering.{ways, radix, digits, size, event_count}
use Rattle.model.proofs.Unfolded.{same_marker_eq, Each}
use Rattle.model.proofs.Counts.{marker_at_lem, count_events, event_from}
use Rattle.unfolding.specs.Numbers.{all_mark}

-- ---- members by their index

module _ {A : Type 0} (t : A → Bool) where
  pub index_found : (l : List A) → index t l < length l → (y : A) × (y ∈ l) × T (t y)
  index_found [] h = absurd (omega arith)
  index_found (x ∷ l) h = go (t x) refl h (index_found l)
    where
      go : (b : Bool) → t x ≡ b → cond b 0 (suc (index t l)) < suc (length l) → (index t l < length l → (y : A) × (y ∈ l) × T (t y)) → (y : A) × (y ∈ x ∷ l) × T (t y)
      go true e h ih = (x, Memᴰ.head refl, T_of (t x) e)
      go false e h ih = let r = ih (omega arith) in (r.0, Memᴰ.tail r.1, r.2)

pub marker_in : (m : Marker) (ms : List Marker) → index (same_marker m) ms < length ms → m ∈ ms
marker_in m ms h =
    let r = index_found (same_marker m) ms h in
    subst (λ (k : Marker). k ∈ ms) (sym (same_marker_eq m r.0 r.2)) r.1

pub marks_each : (mss : List (List Marker)) (c : List Marker) → Each c mss → T (all_mark mss c)
marks_each [] [] h = tt
marks_each [] (m ∷ c) h = absurd h
marks_each (ms ∷ mss) [] h = absurd h
marks_each (ms ∷ mss) (m ∷ c) h =
    and_both (ltb (index (same_marker m) ms) (length ms)) (all_mark mss c)
    (lt→ltb (index (same_marker m) ms) (length ms) (at_lt ms (index (same_marker m) ms) (marker_at_lem m ms h.0))) (marks_each mss c h.1)

-- ---- a place among the colours

-- it is below their number
pub radix_below : (mss : List (List Marker)) (c : List Marker) → all_mark mss c ≡ true → radix mss c < ways mss
radix_below [] [] t = omega arith
radix_below [] (m ∷ c) t = absurd (let z : ◌≡◌ {A = ℕ} 0 1 = cc in omega arith)
radix_below (ms ∷ mss) [] t = absurd (let z : ◌≡◌ {A = ℕ} 0 1 = cc in omega arith)
radix_below (ms ∷ mss) (m ∷ c) t =
    let b = and-true (ltb (index (same_marker m) ms) (length ms)) (all_mark mss c) t in
    let low = ltb-true (index (same_marker m) ms) (length ms) b.0 in
    place_below (index (same_marker m) ms) (length ms) (ways mss) (radix mss c) low (radix_below mss c b.1)

-- ---- origins

module _ (n : Net) where
  abbrev pub choices_at : ℕ → List (List Marker)
  choices_at e = map (markers n) (reads n e)

  pub events_basic : (basic n).events ≡ event_count n
  unfolding basic
  events_basic = count_events n

  module _ (e r : ℕ) (h : e < n.events) (l : r < size n e) where
    pub origin_is : origin n (sum (size n) e + r) ≡ record { event = e; colour = digits (choices_at e) r }
    unfolding origin
    origin_is = at_get_d (unfolded_events n) (sum (size n) e + r) (record { event = 0; colour = [] }) (event_from n e r h l)

    pub origin_low : ltb (sum (size n) e + r) (basic n).events ≡ true
    unfolding basic
    origin_low = lt-ltb (sum (size n) e + r) (length (unfolded_events n)) (at_lt (unfolded_events n) (sum (size n) e + r) (event_from n e r h l))
