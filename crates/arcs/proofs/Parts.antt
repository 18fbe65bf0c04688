-- Ranges kept in lent parts of two arrays: those before the parts stay, and those of the parts follow them.
use mathlib.Core.Path.{◌≡◌, refl, sym, ◌∙◌, ap, ap₂}
use mathlib.Core.List.{List, [], ◌++◌, append-nil}
use Prim.Native.Nat.{ℕ, zero, suc, ◌+◌, ◌-◌, ◌≤◌, ◌<◌}
use native.Mathlib.Omega.{arith}
use native.Mathlib.Nat.{add-zero, zero-add, add-suc}
use lib.ListN.{length, get_or, take, drop, length-take, length-drop, drop_of_length-le, get_or-append}
use lib.Seq.{get_or-take, get_or-append-add, length-take-le}
use Rattle.lists.specs.Lists.{count, spread}
use Rattle.lists.proofs.Positions.{spread_append, count_split}
use Rattle.segments.specs.Ranges.{ranged_from, ranged}
use Rattle.segments.proofs.Ranged.{spread_same}

-- ---- parts

-- a part to the end has what is after it
pub part_room : (at k : ℕ) (xs : List ℕ) → at + k ≤ length xs → k ≤ length (take (length xs - at) (drop at xs))
part_room at k xs h = omega (arith, length-drop at xs, length-take-le (length xs - at) (drop at xs) (omega (arith, length-drop at xs)))

-- and nothing follows it when it is given back
pub part_back : (at : ℕ) (xs ys : List ℕ) → take at xs ++ (ys ++ drop (length xs - at) (drop at xs)) ≡ take at xs ++ ys
part_back at xs ys =
    let none : drop (length xs - at) (drop at xs) ≡ [] = drop_of_length-le (drop at xs) {i = length xs - at} (rw length-drop (omega arith)) in
    rw (none, append-nil)

-- ---- ranges of parts

spread_shift : (f g : ℕ → List ℕ) (at o c : ℕ) → ((i : ℕ) → f (at + i) ≡ g i) → spread f (count (at + o) c) ≡ spread g (count o c)
spread_shift f g at o zero h = refl
spread_shift f g at o (suc c) h = ap₂ {C = List ℕ} (λ x y. x ++ y) (h o) (rw add-suc at (spread_shift f g at (suc o) c h))

module _ (at : ℕ) (xs ys : List ℕ) (h : at ≤ length xs) where
  whole : length (take at xs) ≡ at
  whole = rw length-take (omega arith)

  before_at : (i : ℕ) → i < at → get_or (take at xs ++ ys) i 0 ≡ get_or xs i 0
  before_at i l = get_or-append (take at xs) ys 0 i (omega (arith, whole)) ∙ get_or-take at xs i 0 l

  after_at : (i : ℕ) → get_or (take at xs ++ ys) (at + i) 0 ≡ get_or ys i 0
  after_at i = ap (λ (z : ℕ). get_or (take at xs ++ ys) (z + i) 0) (sym whole) ∙ get_or-append-add (take at xs) ys i 0

module _ (at : ℕ) (starts sizes firsts widths : List ℕ) (h : at ≤ length starts) (l : at ≤ length sizes) where
  pub ranged_before : (k : ℕ) → k ≤ at → ranged (take at starts ++ firsts) (take at sizes ++ widths) k ≡ ranged starts sizes k
  unfolding ranged_from
  ranged_before k m =
      spread_same (λ r. count (get_or (take at starts ++ firsts) r 0) (get_or (take at sizes ++ widths) r 0)) (λ r. count (get_or starts r 0) (get_or sizes r 0)) 0 k
      (λ i a b. ap₂ {C = List ℕ} count (before_at at starts firsts h i (omega arith)) (before_at at sizes widths l i (omega arith)))

  pub ranged_after : (k : ℕ) → ranged (take at starts ++ firsts) (take at sizes ++ widths) (at + k) ≡ ranged starts sizes at ++ ranged firsts widths k
  unfolding ranged_from
  ranged_after k =
      ap (spread here) (rw zero-add at (count_split 0 at k))
      ∙ spread_append here (count 0 at) (count at k)
      ∙ ap₂ {C = List ℕ} (λ x y. x ++ y) (ranged_before at (omega arith))
      (rw add-zero at (spread_shift here (λ r. count (get_or firsts r 0) (get_or widths r 0)) at 0 k
      (λ i. ap₂ {C = List ℕ} count (after_at at starts firsts h i) (after_at at sizes widths l i))))
    where
      here : ℕ → List ℕ
      here r = count (get_or (take at starts ++ firsts) r 0) (get_or (take at sizes ++ widths) r 0)
