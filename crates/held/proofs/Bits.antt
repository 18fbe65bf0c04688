-- Bits of numbers: of what `&`, `|` and `^` make of two, and of a power of two.
use Prim.Native.Nat.{ℕ, zero, suc, ◌*◌, ◌/◌, ◌%◌, ◌^◌, ◌<◌}
use native.Mathlib.Nat.{pow-suc, zero-div, div-one}
use native.Mathlib.Numerals.{one-add}
use native.Mathlib.Omega.{arith}
use mathlib.Core.Path.{◌≡◌, refl, sym, ap, ◌∙◌}
use mathlib.Core.Bool.{Bool, true, false, not, ◌&&◌, ◌||◌}
use lib.Dec.{eqb, eqb-suc-zero, eqb-zero-suc, eqb-suc-suc}
use lib.Pow.{shr-shr, shl_exact}
use lib.Bits.{bit_and, bit_or, bit_xor, and_shr, or_shr, xor_shr, and_mod, or_mod, xor_mod}
use Rattle.held.specs.Held.{bit_of}

-- ---- two numbers, by their bits

-- a law of two bits is one of the lowest bits of two numbers
two : (f : ℕ → ℕ → Bool) (g : Bool → Bool → Bool) → (f 0 0 ≡ g false false) → (f 0 1 ≡ g false true) → (f 1 0 ≡ g true false) → (f 1 1 ≡ g true true)
    → (x y : ℕ) → f (x % 2) (y % 2) ≡ g (eqb (x % 2) 1) (eqb (y % 2) 1)
two f g a b c d x y = go (x % 2) (y % 2) (omega arith) (omega arith)
  where
    go : (p q : ℕ) → p < 2 → q < 2 → f p q ≡ g (eqb p 1) (eqb q 1)
    go zero zero h k = a
    go zero (suc zero) h k = b
    go zero (suc (suc q)) h k = absurd (omega arith)
    go (suc zero) zero h k = c
    go (suc zero) (suc zero) h k = d
    go (suc zero) (suc (suc q)) h k = absurd (omega arith)
    go (suc (suc p)) q h k = absurd (omega arith)

module _ (x y j : ℕ) where
  pub bit_both : bit_of (bit_and x y) j ≡ (bit_of x j && bit_of y j)
  bit_both =
      ap (λ (z : ℕ). eqb (z % 2) 1) (and_shr x y j) ∙ ap (λ (z : ℕ). eqb z 1) (and_mod (x / 2 ^ j) (y / 2 ^ j) 1)
      ∙ two (λ p q. eqb (bit_and p q) 1) (λ s t. s && t) refl refl refl refl (x / 2 ^ j) (y / 2 ^ j)

  pub bit_either : bit_of (bit_or x y) j ≡ (bit_of x j || bit_of y j)
  bit_either =
      ap (λ (z : ℕ). eqb (z % 2) 1) (or_shr x y j) ∙ ap (λ (z : ℕ). eqb z 1) (or_mod (x / 2 ^ j) (y / 2 ^ j) 1)
      ∙ two (λ p q. eqb (bit_or p q) 1) (λ s t. s || t) refl refl refl refl (x / 2 ^ j) (y / 2 ^ j)

  -- the bits of the one that the other has not
  pub bit_less : bit_of (bit_xor x (bit_and x y)) j ≡ (bit_of x j && not (bit_of y j))
  bit_less =
      ap (λ (z : ℕ). eqb (z % 2) 1) (xor_shr x (bit_and x y) j ∙ ap (bit_xor (x / 2 ^ j)) (and_shr x y j))
      ∙ ap (λ (z : ℕ). eqb z 1) (xor_mod (x / 2 ^ j) (bit_and (x / 2 ^ j) (y / 2 ^ j)) 1 ∙ ap (bit_xor (x / 2 ^ j % 2)) (and_mod (x / 2 ^ j) (y / 2 ^ j) 1))
      ∙ two (λ p q. eqb (bit_xor p (bit_and p q)) 1) (λ s t. s && not t) refl refl refl refl (x / 2 ^ j) (y / 2 ^ j)

-- ---- one bit alone

-- a bit further up is one of half the number
pub halved : (x j : ℕ) → x / 2 ^ suc j ≡ x / 2 / 2 ^ j
halved x j = ap (λ (i : ℕ). x / 2 ^ i) (sym (one-add j)) ∙ sym (shr-shr x 1 j)

-- a power of two has its own bit and no other
pub bit_one : (k j : ℕ) → bit_of (2 ^ k) j ≡ eqb j k
bit_one zero zero = refl
bit_one zero (suc j) = ap (λ (z : ℕ). eqb (z % 2) 1) (halved 1 j ∙ zero-div (2 ^ j)) ∙ sym (eqb-suc-zero j)
bit_one (suc k) zero = ap (λ (z : ℕ). eqb (z % 2) 1) (div-one (2 ^ suc k) ∙ pow-suc 2 k) ∙ even (2 ^ k) ∙ sym (eqb-zero-suc k)
  where
    even : (z : ℕ) → eqb (z * 2 % 2) 1 ≡ false
    even z = let q : z * 2 % 2 ≡ 0 = omega arith in ap (λ (y : ℕ). eqb y 1) q
bit_one (suc k) (suc j) = ap (λ (z : ℕ). eqb (z % 2) 1) (halved (2 ^ suc k) j ∙ ap (λ (z : ℕ). z / 2 ^ j) half) ∙ bit_one k j ∙ sym (eqb-suc-suc j k)
  where
    half : 2 ^ suc k / 2 ≡ 2 ^ k
    half = ap (λ (y : ℕ). y / 2) (pow-suc 2 k) ∙ omega arith

-- 1 shifted by less than 64 is such a power
pub shifted : (k : ℕ) → k < 64 → (1 * 2 ^ k) % 2 ^ 64 ≡ 2 ^ k
shifted k h = shl_exact 1 k 64 (omega arith) (omega arith) ∙ omega arith
