-- The first byte above 1, looked for from the front.
use mathlib.Core.Path.{◌≡◌, refl, ap}
use mathlib.Core.Bool.{Bool, true, false}
use mathlib.Core.List.{List, [], ◌∷◌}
use Prim.Native.Nat.{ℕ, suc, ◌+◌, ◌≤◌, ◌<◌}
use lib.ListN.{length, get_or}
use native.Mathlib.Omega.{arith}
use lib.Dec.{eqb}
use lib.Bits.{bit_or, or_add_and, and_le_r, or_comm}
use borrow.Author.Tests.{le-ltb, eqb-true, eqb-false}
use Rattle.game.specs.Lent.{first_above}
use Rattle.game.specs.Ready.{NoneAbove}

-- no byte of the first i is above a number
abbrev pub NoneBefore : List ℕ → ℕ → ℕ → Type 0
NoneBefore l i x = (j : ℕ) → j < i → get_or l j 0 ≤ x

or_high : (a b : ℕ) → a ≤ bit_or a b
or_high a b = omega (arith, or_add_and a b, and_le_r a b)

pub together_on : (l : List ℕ) (i x : ℕ) → NoneBefore l i x → NoneBefore l (i + 1) (bit_or x (get_or l i 0))
together_on l i x g j h = go (eqb j i) refl
  where
    go : (t : Bool) → eqb j i ≡ t → get_or l j 0 ≤ bit_or x (get_or l i 0)
    go true e = let z : j ≡ i = eqb-true j i e in rw (z, or_comm x (get_or l i 0)) (or_high (get_or l i 0) x)
    go false e = let n = eqb-false j i e in omega (arith, g j (omega (arith, n)), or_high x (get_or l i 0))

-- where no byte is above 1, the first that is stands past the last
pub above_none : (l : List ℕ) → NoneAbove l 1 → length l ≡ first_above l
above_none [] g = refl
above_none (x ∷ l) g = rw (le-ltb 1 x (g 0 (omega arith))) (ap suc (above_none l (λ i h. g (suc i) (omega arith))))
