-- The numbers of unfolded conditions ascend with the conditions that they stand for, and those of copies for one marker with their users.
use mathlib.Core.Path.{◌≡◌}
use Prim.Native.Nat.{ℕ, ◌+◌, ◌≤◌, ◌<◌}
use native.Mathlib.Decide.{dec_le}
use native.Mathlib.Omega.{arith}
use lib.Dec.{eqb}
use lib.ListN.{length}
use Rattle.lists.specs.Lists.{index, sum, ◌∈◌}
use Rattle.lists.proofs.Places.{at_lt, number_index}
use Rattle.lists.proofs.Products.{place_below}
use Rattle.model.specs.Net.{Net}
use Rattle.model.specs.Runs.{Marker}
use Rattle.model.specs.Unfolding.{same_marker, UnfoldedCondition, ordinary, copy, markers, users, unfolded_conditions}
use Rattle.model.specs.Numbering.{condition_number, width, counted_condition}
use Rattle.model.proofs.Unfolded.{kind_of, pair_of}
use Rattle.model.proofs.Counts.{marker_at_lem, condition_counted}
use Rattle.layout.proofs.Counts.{sum_part}

-- the condition that an unfolded one stands for
abbrev pub owner : UnfoldedCondition → ℕ
owner (ordinary b) = b
owner (copy b m u) = b

module _ (n : Net) where
  counted_low : (p : UnfoldedCondition) → sum (width n) (owner p) ≤ counted_condition n p
  unfolding counted_condition
  counted_low (ordinary b) = omega arith
  counted_low (copy b m u) = omega arith

  counted_high : (p : UnfoldedCondition) → p ∈ unfolded_conditions n → counted_condition n p < sum (width n) (owner p) + width n (owner p)
  unfolding counted_condition width
  counted_high (ordinary b) i = rw (kind_of n (ordinary b) i) (omega arith)
  counted_high (copy b m u) i =
      let r = pair_of n (copy b m u) i in
      let x = at_lt (markers n b) (index (same_marker m) (markers n b)) (marker_at_lem m (markers n b) r.0) in
      let y = at_lt (users n b) (index (eqb u) (users n b)) (number_index u (users n b) r.1) in
      rw (kind_of n (copy b m u) i)
      (omega (arith, place_below (index (same_marker m) (markers n b)) (length (markers n b)) (length (users n b)) (index (eqb u) (users n b)) x y))

  -- by the conditions
  number_below : (p q : UnfoldedCondition) → p ∈ unfolded_conditions n → q ∈ unfolded_conditions n → owner p < owner q → condition_number n p ≤ condition_number n q
  number_below p q i j h =
      omega (arith, condition_counted n p i, condition_counted n q j, counted_high p i, sum_part (width n) (owner q) (owner p) h, counted_low q)

  -- by the users
  pub user_below : (b : ℕ) (m : Marker) (u v : ℕ) → copy b m u ∈ unfolded_conditions n → copy b m v ∈ unfolded_conditions n
      → index (eqb u) (users n b) ≤ index (eqb v) (users n b) → condition_number n (copy b m u) ≤ condition_number n (copy b m v)
  unfolding counted_condition
  user_below b m u v i j h = omega (arith, condition_counted n (copy b m u) i, condition_counted n (copy b m v) j)

  -- where each condition leads to an unfolded one of its own, those up to b lead no further than p if b does
  pub in_order : (to : ℕ → UnfoldedCondition) → ((b : ℕ) → owner (to b) ≡ b) → (b : ℕ) (p : UnfoldedCondition) → p ∈ unfolded_conditions n → owner p ≡ b
      → condition_number n (to b) ≤ condition_number n p → (d : ℕ) → d ≤ b → to d ∈ unfolded_conditions n → condition_number n (to d) ≤ condition_number n p
  in_order to own b p i o h d l j = go (dec_le b d)
    where
      go : Dec (b ≤ d) → condition_number n (to d) ≤ condition_number n p
      go (yes k) = let z : d ≡ b = omega arith in rw z h
      go (no k) = number_below (to d) p j i (omega (arith, own d))
