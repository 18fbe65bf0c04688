-- Bytes taken two by two: a number is among those of the bytes exactly if its own two bytes are one of the pairs.
use Prim.Native.Nat.{ℕ, zero, suc, ◌+◌, ◌*◌, ◌/◌, ◌%◌, ◌<◌}
use native.Mathlib.Omega.{arith}
use mathlib.Core.Path.{◌≡◌, refl, ap₂}
use mathlib.Core.Bool.{Bool, true, false, ◌&&◌, ◌||◌}
use mathlib.Core.List.{List, [], ◌∷◌}
use lib.Dec.{T, eqb, eqb→eq}
use lib.ListN.{length, get_or}
use lib.Pointwise.{pointwise}
use borrow.Author.Tests.{eq-eqb, ne_eqb}
use Rattle.std.specs.Prelude.{nat_eq}
use Rattle.std.specs.List.{list_any}
use Rattle.std.specs.Simd.{first_chunks}
use Rattle.lists.specs.Lists.{mem}
use Rattle.lists.proofs.Bools.{iff, T_of, and_left, and_right}
use Rattle.words.specs.Words.{words}

-- the two bytes of a number that has no more than two, low byte first
abbrev pub two_of : ℕ → List ℕ
two_of k = k % 256 ∷ k / 256 % 256 ∷ []

module _ (a b k : ℕ) (low : a < 256) (high : b < 256) (few : k < 65536) where
  abbrev same_bytes : Bool
  same_bytes = eqb a (k % 256) && (eqb b (k / 256 % 256) && true)

  same_number : T same_bytes → T (eqb k (a + 256 * b))
  same_number t =
      let rest = and_right (eqb a (k % 256)) (eqb b (k / 256 % 256) && true) t in
      let first = eqb→eq a (k % 256) (and_left (eqb a (k % 256)) (eqb b (k / 256 % 256) && true) t) in
      let second = eqb→eq b (k / 256 % 256) (and_left (eqb b (k / 256 % 256)) true rest) in
      T_of (eqb k (a + 256 * b)) (eq-eqb k (a + 256 * b) (omega (arith, first, second)))

  bytes_too : T (eqb k (a + 256 * b)) → T same_bytes
  bytes_too t =
      let is = eqb→eq k (a + 256 * b) t in
      rw (eq-eqb a (k % 256) (omega (arith, is)), eq-eqb b (k / 256 % 256) (omega (arith, is))) tt

  pub same_pair : pointwise nat_eq (a ∷ b ∷ []) (two_of k) ≡ eqb k (a + 256 * b)
  same_pair = iff same_bytes (eqb k (a + 256 * b)) same_number bytes_too

-- a number of two bytes is among those of the bytes exactly if these are one of the pairs
pub pairs_any : (s : List ℕ) (n k : ℕ) → n ≡ length s / 2 → ((i : ℕ) → get_or s i 0 < 256) → k < 65536
    → list_any (λ y. pointwise nat_eq y (two_of k)) (first_chunks 2 n s) ≡ mem k (words s)
unfolding words
pairs_any [] zero k e byte few = refl
pairs_any [] (suc n) k e byte few = absurd (omega arith)
pairs_any (a ∷ []) zero k e byte few = refl
pairs_any (a ∷ []) (suc n) k e byte few = absurd (omega arith)
pairs_any (a ∷ b ∷ r) zero k e byte few = absurd (omega arith)
pairs_any (a ∷ b ∷ r) (suc n) k e byte few =
    let rest = pairs_any r n k (omega arith) (λ i. byte (suc (suc i))) few in
    ap₂ (λ (t u : Bool). t || u) (same_pair a b k (byte 0) (byte 1) few) rest

-- a larger number is not among them
pub wide_none : (s : List ℕ) (k : ℕ) → ((i : ℕ) → get_or s i 0 < 256) → (k < 65536 → ⊥) → mem k (words s) ≡ false
unfolding words
wide_none [] k byte wide = refl
wide_none (a ∷ []) k byte wide = refl
wide_none (a ∷ b ∷ r) k byte wide =
    let low = byte 0 in
    let high = byte 1 in
    ap₂ (λ (t u : Bool). t || u) (ne_eqb k (a + 256 * b) (λ e. wide (omega (arith, low, high, e)))) (wide_none r k (λ i. byte (suc (suc i))) wide)
