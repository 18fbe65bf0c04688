-- The numbers of the unfolded conditions that a stopped event is told by, counted from those of the conditions before.
use Prim.Native.Nat.{ℕ, zero, suc, ◌+◌, ◌*◌, ◌≤◌, ◌<◌}
use native.Mathlib.Decide.{dec_le}
use native.Mathlib.Omega.{arith}
use mathlib.Core.Path.{◌≡◌, refl, sym, ap, ◌∙◌, subst}
use mathlib.Core.Bool.{Bool, true, false, ◌&&◌, cond}
use mathlib.Core.Option.{some}
use mathlib.Core.List.{List, [], ◌∷◌}
use lib.Dec.{T, eqb, eqb→eq, eqb_refl}
use lib.ListN.{length, get_or, get_or-eq_default}
use borrow.Author.Tests.{ne_eqb, eqb-false}
use Rattle.lists.specs.Lists.{all, failing, index, sum, ◌∈◌}
use Rattle.lists.proofs.Bools.{is_true, T_of}
use Rattle.lists.proofs.Places.{at_lt, at_some, in_at}
use Rattle.lists.proofs.Distinct.{Distinct}
use Rattle.model.specs.Net.{Net}
use Rattle.model.specs.Runs.{Marker, at_start}
use Rattle.model.specs.Unfolding.{same_marker, UnfoldedCondition, ordinary, copy, markers, users, unfolded_conditions}
use Rattle.model.specs.Numbering.{condition_number, condition_count, counted_condition, width}
use Rattle.model.specs.Across.{most_unfolded}
use Rattle.model.proofs.Numbers.{condition_at_lem}
use Rattle.model.proofs.Counts.{marker_at_lem, distinct_markers, count_conditions, condition_counted}
use Rattle.table.specs.Decoded.{net_of}
use Rattle.layout.specs.Counts.{width_at}
use Rattle.layout.specs.Laid.{Counted}
use Rattle.layout.proofs.Counts.{sum_part, width_read}
use Rattle.decided.specs.Decided.{met_user}
use Rattle.decided.specs.Kept.{marker_at, kept_marker, Kept}

-- ---- the conditions before

module _ (s ms us : List ℕ) (c : Counted s ms us) (i : ℕ) (h : i < (net_of s).conditions) where
  pub width_here : {r : ℕ} → r ≡ width_at s ms us i → r ≡ width (net_of s) i
  width_here q = q ∙ width_read s ms us c i (omega (arith, c.marked.limits.few_conditions))

  pub sum_few : condition_count (net_of s) ≤ most_unfolded → sum (width (net_of s)) i + width (net_of s) i ≤ 65535
  unfolding condition_count
  sum_few f = omega (arith, sum_part (width (net_of s)) (net_of s).conditions i h)

-- ---- a number and its parts

module _ (n : Net) where
  pub number_low : condition_count n ≤ most_unfolded → (p : UnfoldedCondition) → p ∈ unfolded_conditions n → condition_number n p ≤ 65535
  number_low f p i = omega (arith, at_lt (unfolded_conditions n) (condition_number n p) (condition_at_lem n p i), count_conditions n)

  pub ordinary_number_lem : (b : ℕ) → ordinary b ∈ unfolded_conditions n → sum (width n) b ≡ condition_number n (ordinary b)
  unfolding counted_condition
  ordinary_number_lem b i = sym (condition_counted n (ordinary b) i)

  pub copy_number_lem : (b : ℕ) (m : Marker) (u : ℕ) → copy b m u ∈ unfolded_conditions n
      → sum (width n) b + (index (same_marker m) (markers n b) * length (users n b) + index (eqb u) (users n b)) ≡ condition_number n (copy b m u)
  unfolding counted_condition
  copy_number_lem b m u i = sym (condition_counted n (copy b m u) i)

-- ---- the places of a kept marker, and of the first user whose copy stays

module _ (n : Net) (places kept : List ℕ) (k : Kept n places kept) (b : ℕ) (h : b < 256) where
  -- a place past the markers would stand for the start, which stands at place 0
  place_inside : get_or places b 0 < length (markers n b)
  unfolding markers
  place_inside = go (get_or places b 0) (k.each b h) (dec_le (length (markers n b)) (get_or places b 0))
    where
      go : (p : ℕ) → get_or (markers n b) p at_start ≡ kept_marker p (get_or kept b 0) → Dec (length (markers n b) ≤ p) → p < length (markers n b)
      go p q (no g) = omega arith
      go zero q (yes g) = omega arith
      go (suc p) q (yes g) = absurd (let d = get_or-eq_default (markers n b) at_start g in let z : ◌≡◌ {A = ℕ} 0 1 = cc in omega arith)

  pub kept_in : marker_at n places b ∈ markers n b
  kept_in = in_at (markers n b) (get_or places b 0) (at_some (markers n b) (get_or places b 0) at_start place_inside)

  pub kept_place : index (same_marker (marker_at n places b)) (markers n b) ≡ get_or places b 0
  kept_place =
      distinct_markers n b (marker_at n places b) (index (same_marker (marker_at n places b)) (markers n b)) (get_or places b 0)
      (marker_at_lem (marker_at n places b) (markers n b) kept_in) (at_some (markers n b) (get_or places b 0) at_start place_inside)

-- it is the first, or the second where the first is e's own
pub left_place : (e : ℕ) (own : Bool) (us : List ℕ) → Distinct us → all (λ u. eqb u e && own) us ≡ false
    → index (eqb (met_user (failing (λ u. eqb u e && own) us))) us ≡ cond (own && eqb (index (eqb e) us) 0) 1 0
left_place e own [] d a = absurd (subst T a tt)
left_place e own (x ∷ us) d a = go own (eqb x e) refl us d a
  where
    here : (y : ℕ) → eqb y y ≡ true
    here y = is_true (eqb y y) (eqb_refl y)

    go : (own t : Bool) → eqb x e ≡ t → (us : List ℕ) → Distinct (x ∷ us) → all (λ u. eqb u e && own) (x ∷ us) ≡ false
        → index (eqb (met_user (failing (λ u. eqb u e && own) (x ∷ us)))) (x ∷ us) ≡ cond (own && eqb (index (eqb e) (x ∷ us)) 0) 1 0
    go false true q us d a = rw (q, here x)
    go false false q us d a = rw (q, here x)
    go true false q us d a =
        let other : eqb e x ≡ false = ne_eqb e x (λ z. eqb-false x e q (sym z)) in
        rw (q, here x, other, ne_eqb (suc (index (eqb e) us)) 0 (λ z. omega arith))
    go true true q [] d a = absurd (subst T (rw q at a) tt)
    go true true q (y ∷ us) d a =
        let own : x ≡ e = eqb→eq x e (T_of (eqb x e) q) in
        let next : eqb y e ≡ false = ne_eqb y e (λ z. let w : ◌≡◌ {A = ℕ} 0 1 = d x 0 1 refl (ap some (z ∙ sym own)) in omega arith) in
        rw (own, here e, next) (rw (next, here y))
