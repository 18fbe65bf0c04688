-- A number and a range as one segment: which numbers it has, and that it ascends.
use mathlib.Core.Path.{◌≡◌, refl, ◌∙◌, ap}
use mathlib.Core.Bool.{Bool, true, false, ◌||◌, cond}
use Prim.Native.Nat.{ℕ, ◌+◌, ◌≤◌, ◌<◌}
use lib.Dec.{eqb, ltb, eqb→eq}
use native.Mathlib.Omega.{arith}
use borrow.Author.Tests.{ltb-true, ltb-false, eq-eqb}
use Rattle.lists.proofs.Bools.{T_of, iff, or_none}
use Rattle.segments.specs.declared.Segment.{Segment}
use Rattle.segments.specs.Ranges.{alone_of, joined_of}
use Rattle.segments.proofs.Places.{inside, inside_in, inside_out, nothing_in}

-- a number is one of a segment's
abbrev pub has : Segment → ℕ → Bool
has g k = inside g.first g.size k || inside g.next g.more k

-- a segment ascends between two numbers
pub record Between (low high : ℕ) (g : Segment) : Type 0 where
  pub from : low ≤ g.first
  pub then : g.first + g.size ≤ g.next
  pub upto : g.next + g.more ≤ high

pub alone_between : (low high first size : ℕ) → low ≤ first → first + size ≤ high → Between low high (alone_of first size)
alone_between low high first size h l = record { from = h; then = omega arith; upto = omega arith }

pub alone_has : (first size k : ℕ) → has (alone_of first size) k ≡ inside first size k
alone_has first size k = rw (nothing_in (first + size) k) (or_none (inside first size k))

pub one_inside : (taken k : ℕ) → inside taken 1 k ≡ eqb k taken
one_inside taken k =
    iff (inside taken 1 k) (eqb k taken)
    (λ t. let x = inside_out taken 1 k t in T_of (eqb k taken) (eq-eqb k taken (omega arith)))
    (λ t. let z : k ≡ taken = eqb→eq k taken t in T_of (inside taken 1 k) (inside_in taken 1 k (omega arith) (omega arith)))

swap : (a b : Bool) → (a || b) ≡ (b || a)
swap true true = refl
swap true false = refl
swap false true = refl
swap false false = refl

module _ (taken first size : ℕ) where
  abbrev before : Segment
  before = record { first = taken; size = 1; next = first; more = size }

  abbrev after : Segment
  after = record { first = first; size = size; next = taken; more = 1 }

  pub joined_has : (k : ℕ) → has (joined_of taken first size) k ≡ (eqb k taken || inside first size k)
  joined_has k = go (ltb taken first) refl (ltb taken (first + size)) refl
    where
      covered : taken < first + size → first ≤ taken → (b : Bool) → eqb k taken ≡ b → inside first size k ≡ (b || inside first size k)
      covered h l true e = let z : k ≡ taken = eqb→eq k taken (T_of (eqb k taken) e) in inside_in first size k (omega arith) (omega arith)
      covered h l false e = refl

      go : (b : Bool) → ltb taken first ≡ b → (d : Bool) → ltb taken (first + size) ≡ d
          → has (cond b before (cond d (alone_of first size) after)) k ≡ (eqb k taken || inside first size k)
      go true e d f = ap (λ (z : Bool). z || inside first size k) (one_inside taken k)
      go false e true f = alone_has first size k ∙ covered (ltb-true taken (first + size) f) (ltb-false taken first e) (eqb k taken) refl
      go false e false f = swap (inside first size k) (inside taken 1 k) ∙ ap (λ (z : Bool). z || inside first size k) (one_inside taken k)

  pub joined_between : (low high : ℕ) → low ≤ taken → taken < high → low ≤ first → first + size ≤ high → Between low high (joined_of taken first size)
  joined_between low high a b c d = go (ltb taken first) refl (ltb taken (first + size)) refl
    where
      go : (x : Bool) → ltb taken first ≡ x → (y : Bool) → ltb taken (first + size) ≡ y
          → Between low high (cond x before (cond y (alone_of first size) after))
      go true e y f = let z : taken < first = ltb-true taken first e in record { from = a; then = omega arith; upto = d }
      go false e true f = alone_between low high first size c d
      go false e false f = let z : first + size ≤ taken = ltb-false taken (first + size) f in record { from = c; then = z; upto = omega arith }
