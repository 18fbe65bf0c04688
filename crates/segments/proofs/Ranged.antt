-- Ranges kept in two arrays: one more, walked one by one, and put into an output.
use mathlib.Core.Path.{◌≡◌, refl, ◌∙◌, ap, ap₂}
use mathlib.Core.List.{List, [], ◌∷◌, ◌++◌, append-nil, append_assoc}
use Prim.Native.Nat.{ℕ, zero, suc, ◌+◌, ◌*◌, ◌-◌, ◌≤◌, ◌<◌}
use lib.Dec.{T}
use lib.ListN.{length, get_or, set, length-set, length-append}
use lib.Seq.{sets, get_or-set_same, get_or-set_other}
use native.Mathlib.Nat.{add-zero, zero-add}
use native.Mathlib.Numerals.{add-one}
use native.Mathlib.Omega.{arith}
use Rattle.lists.specs.Lists.{mem, count, spread, sum}
use Rattle.lists.proofs.Bools.{or_left, or_right}
use Rattle.lists.proofs.Members.{mem_append, in_mem, count_in_lem, length_count}
use Rattle.lists.proofs.Positions.{spread_append, count_split}
use Rattle.lists.proofs.Stored.{store_both}
use Rattle.segments.specs.declared.Segment.{Segment}
use Rattle.segments.specs.Ranges.{ranged_from, ranged, within}

-- ---- one more

pub spread_same : (f g : ℕ → List ℕ) (o c : ℕ) → ((i : ℕ) → o ≤ i → i < o + c → f i ≡ g i) → spread f (count o c) ≡ spread g (count o c)
spread_same f g o zero h = refl
spread_same f g o (suc c) h =
    ap₂ {C = List ℕ} (λ x y. x ++ y) (h o (omega arith) (omega arith)) (spread_same f g (suc o) c (λ i l m. h i (omega arith) (omega arith)))

pub spread_next : (f : ℕ → List ℕ) (k : ℕ) → spread f (count 0 (k + 1)) ≡ spread f (count 0 k) ++ f k
spread_next f k =
    ap (spread f) (rw zero-add at (count_split 0 k 1)) ∙ spread_append f (count 0 k) (k ∷ []) ∙ ap {B = List ℕ} (λ z. spread f (count 0 k) ++ z) (append-nil (f k))

pub ranged_next : (starts sizes : List ℕ) (k : ℕ) → ranged starts sizes (k + 1) ≡ ranged starts sizes k ++ count (get_or starts k 0) (get_or sizes k 0)
unfolding ranged_from
ranged_next starts sizes k = spread_next (λ r. count (get_or starts r 0) (get_or sizes r 0)) k

pub length_next : (starts sizes : List ℕ) (k : ℕ) → length (ranged starts sizes (k + 1)) ≡ length (ranged starts sizes k) + get_or sizes k 0
length_next starts sizes k =
    ap (λ (l : List ℕ). length l) (ranged_next starts sizes k) ∙ length-append (ranged starts sizes k) (count (get_or starts k 0) (get_or sizes k 0))
    ∙ ap (λ (z : ℕ). length (ranged starts sizes k) + z) (length_count (get_or starts k 0) (get_or sizes k 0))

pub ranged_none : (starts sizes : List ℕ) → ranged starts sizes 0 ≡ []
unfolding ranged_from
ranged_none starts sizes = refl

pub ranged_length : (starts sizes : List ℕ) (k : ℕ) → length (ranged starts sizes k) ≡ sum (λ i. get_or sizes i 0) k
ranged_length starts sizes zero = ap (λ (l : List ℕ). length l) (ranged_none starts sizes)
ranged_length starts sizes (suc k) =
    rw add-one at (length_next starts sizes k) ∙ ap (λ (z : ℕ). z + get_or sizes k 0) (ranged_length starts sizes k)

ranged_push : (starts sizes : List ℕ) (k a p : ℕ) → k < length starts → k < length sizes → ranged (set starts k a) (set sizes k p) (k + 1) ≡ ranged starts sizes k ++ count a p
unfolding ranged_from
ranged_push starts sizes k a p h l =
    ranged_next (set starts k a) (set sizes k p) k
    ∙ ap₂ {C = List ℕ} (λ x y. x ++ y)
    (spread_same (λ r. count (get_or (set starts k a) r 0) (get_or (set sizes k p) r 0)) (λ r. count (get_or starts r 0) (get_or sizes r 0)) 0 k
    (λ i m n. ap₂ {C = List ℕ} count (get_or-set_other starts k i a 0 (λ z. omega arith)) (get_or-set_other sizes k i p 0 (λ z. omega arith))))
    (ap₂ {C = List ℕ} count (get_or-set_same starts k a 0 h) (get_or-set_same sizes k p 0 l))

-- two more, which are those of a segment
pub ranged_two : (starts sizes : List ℕ) (b : ℕ) (g : Segment) → 2 * b + 1 < length starts → 2 * b + 1 < length sizes
    → ranged (set (set starts (2 * b) g.first) (2 * b + 1) g.next) (set (set sizes (2 * b) g.size) (2 * b + 1) g.more) (2 * (b + 1)) ≡ ranged starts sizes (2 * b) ++ within g
ranged_two starts sizes b g h l =
    let z : 2 * (b + 1) ≡ 2 * b + 1 + 1 = omega arith in
    ap (λ (x : ℕ). ranged (set (set starts (2 * b) g.first) (2 * b + 1) g.next) (set (set sizes (2 * b) g.size) (2 * b + 1) g.more) x) z
    ∙ ranged_push (set starts (2 * b) g.first) (set sizes (2 * b) g.size) (2 * b + 1) g.next g.more (rw length-set h) (rw length-set l)
    ∙ ap {B = List ℕ} (λ x. x ++ count g.next g.more) (ranged_push starts sizes (2 * b) g.first g.size (omega arith) (omega arith))
    ∙ append_assoc (ranged starts sizes (2 * b)) (count g.first g.size) (count g.next g.more)

-- ---- walked one by one

pub ranged_whole : (starts sizes : List ℕ) (k : ℕ) → ranged_from starts sizes 0 (k - 0) ≡ ranged starts sizes k
ranged_whole starts sizes k = let z : k - 0 ≡ k = omega arith in rw z

module _ (starts sizes : List ℕ) (i k : ℕ) where
  pub ranged_on : i < k → ranged_from starts sizes i (k - i) ≡ count (get_or starts i 0) (get_or sizes i 0) ++ ranged_from starts sizes (i + 1) (k - (i + 1))
  unfolding ranged_from
  ranged_on h = let z : k - i ≡ suc (k - (i + 1)) = omega arith in rw (z, add-one)

  pub ranged_end : k ≤ i → ranged_from starts sizes i (k - i) ≡ []
  unfolding ranged_from
  ranged_end h = let z : k - i ≡ 0 = omega arith in rw z

  -- each number of the first of them is there, and each of the others
  pub first_there : i < k → (d : ℕ) → d < get_or sizes i 0 → T (mem (get_or starts i 0 + d) (ranged_from starts sizes i (k - i)))
  first_there h d l =
      rw (ranged_on h, mem_append (get_or starts i 0 + d) (count (get_or starts i 0) (get_or sizes i 0)) (ranged_from starts sizes (i + 1) (k - (i + 1))))
      (or_left (mem (get_or starts i 0 + d) (count (get_or starts i 0) (get_or sizes i 0))) (mem (get_or starts i 0 + d) (ranged_from starts sizes (i + 1) (k - (i + 1))))
      (in_mem (count_in_lem (get_or starts i 0 + d) (get_or starts i 0) (get_or sizes i 0) (omega arith) (omega arith))))

  pub others_there : i < k → (x : ℕ) → T (mem x (ranged_from starts sizes (i + 1) (k - (i + 1)))) → T (mem x (ranged_from starts sizes i (k - i)))
  others_there h x t =
      rw (ranged_on h, mem_append x (count (get_or starts i 0) (get_or sizes i 0)) (ranged_from starts sizes (i + 1) (k - (i + 1))))
      (or_right (mem x (count (get_or starts i 0) (get_or sizes i 0))) (mem x (ranged_from starts sizes (i + 1) (k - (i + 1)))) t)

  pub length_on : i < k → length (ranged_from starts sizes i (k - i)) ≡ get_or sizes i 0 + length (ranged_from starts sizes (i + 1) (k - (i + 1)))
  length_on h =
      ap (λ (l : List ℕ). length l) (ranged_on h) ∙ length-append (count (get_or starts i 0) (get_or sizes i 0)) (ranged_from starts sizes (i + 1) (k - (i + 1)))
      ∙ ap (λ (z : ℕ). z + length (ranged_from starts sizes (i + 1) (k - (i + 1)))) (length_count (get_or starts i 0) (get_or sizes i 0))

-- ---- put into an output

pub put_on : (out : List ℕ) (at first size i : ℕ) → i < size
    → sets out (at + i) (count (first + i) (size - i)) ≡ sets (set out (at + i) (first + i)) (at + (i + 1)) (count (first + (i + 1)) (size - (i + 1)))
put_on out at first size i h =
    let z : size - i ≡ suc (size - (i + 1)) = omega arith in
    let a : at + (i + 1) ≡ suc (at + i) = omega arith in
    let b : first + (i + 1) ≡ suc (first + i) = omega arith in
    rw (z, a, b)

pub put_end : (out : List ℕ) (at first size i : ℕ) → size ≤ i → sets out (at + i) (count (first + i) (size - i)) ≡ out
put_end out at first size i h = let z : size - i ≡ 0 = omega arith in rw z

pub put_start : (out : List ℕ) (at first size : ℕ) → sets out (at + 0) (count (first + 0) (size - 0)) ≡ sets out at (count first size)
put_start out at first size = let z : size - 0 ≡ size = omega arith in rw (add-zero, add-zero, z)

pub put_next : (starts sizes : List ℕ) (i k : ℕ) → i < k → (out : List ℕ) (at first size : ℕ) → first ≡ get_or starts i 0 → size ≡ get_or sizes i 0
    → sets out at (ranged_from starts sizes i (k - i)) ≡ sets (sets out at (count first size)) (at + size) (ranged_from starts sizes (i + 1) (k - (i + 1)))
put_next starts sizes i k h out at first size p q =
    ap (sets out at) (ranged_on starts sizes i k h)
    ∙ store_both (count (get_or starts i 0) (get_or sizes i 0)) (ranged_from starts sizes (i + 1) (k - (i + 1))) out at
    ∙ rw (length_count, p, q)
