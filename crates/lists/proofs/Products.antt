-- Places in lists of one length that stand one after the other: place r of list i is i * l + r.
use mathlib.Core.Path.{◌≡◌, ap}
use Prim.Native.Nat.{ℕ, zero, suc, ◌+◌, ◌*◌, ◌≤◌, ◌<◌}
use native.Mathlib.Decide.{dec_le}
use native.Mathlib.Nat.{mul-le-mul}
use native.Mathlib.Omega.{arith}

-- such a place has a length to be in
pub some_length : (a l r : ℕ) → r < a * l → 0 < l
some_length a zero r h = absurd (omega arith)
some_length a (suc l) r h = omega arith

-- a list ends within all of them together, and a place in it lies below that end
pub place_most : (i m l : ℕ) → i < m → i * l + l ≤ m * l
place_most i m l h = omega (arith, mul-le-mul {m₁ = l} {m₂ = l} h (omega arith))

pub place_below : (i m l r : ℕ) → i < m → r < l → i * l + r < m * l
place_below i m l r h k = omega (arith, place_most i m l h)

-- a place tells which list it is in, and where in that list
pub one_place : (a b u v w : ℕ) → v < u → w < u → a * u + v ≡ b * u + w → (a ≡ b) × (v ≡ w)
one_place a b u v w h l e = go (dec_le a b) (dec_le b a)
  where
    go : Dec (a ≤ b) → Dec (b ≤ a) → (a ≡ b) × (v ≡ w)
    go (yes p) (yes q) = let z : a ≡ b = omega arith in (z, omega (arith, ap (λ (x : ℕ). x * u) z))
    go (no p) y = absurd (omega (arith, place_below b a u w (omega arith) l))
    go (yes p) (no q) = absurd (omega (arith, place_below a b u v (omega arith) h))
