-- Sums of the sizes of ranges: which range a number stands in.
use Prim.Native.Nat.{ℕ, ◌+◌, ◌*◌, ◌-◌, ◌≤◌, ◌<◌}
use mathlib.Core.Path.{◌≡◌, refl, sym, ◌∙◌, ap}
use mathlib.Core.List.{List}
use lib.ListN.{length, get_or, length-append}
use native.Mathlib.Decide.{dec_le}
use native.Mathlib.Omega.{arith}
use Rattle.lists.specs.Lists.{sum}
use Rattle.layout.proofs.Counts.{sum_next, sum_part}
use Rattle.model.specs.Net.{Net}
use Rattle.segments.proofs.Ranged.{ranged_length}
use Rattle.arcs.specs.Arcs.{exported, arcs_at, Arcs}
use Rattle.spots.specs.Spots.{sizes_before, Holding}

-- a sum only grows
pub sum_most : (f : ℕ → ℕ) (i k : ℕ) → i ≤ k → sum f i ≤ sum f k
sum_most f i k h = go (dec_le k i)
  where
    go : Dec (k ≤ i) → sum f i ≤ sum f k
    go (yes l) = let z : i ≡ k = omega arith in rw z (omega arith)
    go (no l) = omega (arith, sum_part f k i (omega arith))

pub size_next : (sizes : List ℕ) (r : ℕ) → sizes_before sizes (r + 1) ≡ sizes_before sizes r + get_or sizes r 0
size_next sizes r = sym (sum_next (λ i. get_or sizes i 0) r (get_or sizes r 0) refl)

-- a number that is looked for stands in no range before the one that the walk has come to, and in one that there is
pub range_there : (sizes : List ℕ) (before wanted : ℕ) (h : Holding sizes before wanted) (r left : ℕ) → before + (sizes_before sizes r + left) ≡ wanted → r < h.ranges
range_there sizes before wanted h r left e = go (dec_le h.ranges r)
  where
    go : Dec (h.ranges ≤ r) → r < h.ranges
    go (yes l) = absurd (omega (arith, sum_most (λ i. get_or sizes i 0) h.ranges r l, h.below))
    go (no l) = omega arith

-- ---- the ranges of a transition

-- together they have its arcs
pub sizes_whole : (n : Net) (t : ℕ) (starts sizes : List ℕ) → Arcs n t starts sizes → sizes_before sizes (8 * n.conditions) ≡ arcs_at n t
unfolding arcs_at
sizes_whole n t starts sizes a =
    sym (ranged_length starts sizes (8 * n.conditions)) ∙ ap (λ (l : List ℕ). length l) a.all ∙ length-append ((exported n).inputs t) ((exported n).outputs t)

-- the first half has those into it
pub sizes_into : (n : Net) (t : ℕ) (starts sizes : List ℕ) → Arcs n t starts sizes → sizes_before sizes (4 * n.conditions) ≡ length ((exported n).inputs t)
sizes_into n t starts sizes a = sym (ranged_length starts sizes (4 * n.conditions)) ∙ ap (λ (l : List ℕ). length l) a.into
