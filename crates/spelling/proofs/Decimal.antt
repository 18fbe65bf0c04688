-- Numbers in decimal: one digit, one digit more, and how many there are.
use Prim.Native.Nat.{ℕ, zero, suc, ◌+◌, ◌*◌, ◌/◌, ◌%◌, ◌≤◌, ◌<◌}
use native.Mathlib.Decide.{dec_le}
use native.Mathlib.Omega.{arith}
use mathlib.Core.Path.{◌≡◌, refl, ap}
use mathlib.Core.Bool.{Bool, true, false}
use mathlib.Core.List.{List, [], ◌∷◌, ◌++◌}
use borrow.Author.Tests.{lt-ltb, le-ltb, ltb-false}
use lib.Dec.{ltb}
use lib.ListN.{length, length-append}
use Rattle.spelling.specs.Decimal.{digits, decimal}

-- As many digits as a number counts are enough, and more change nothing.
enough : (j k n : ℕ) → n < j → n < k → digits j n ≡ digits k n
enough zero k n h _ = absurd (omega arith)
enough (suc j) zero n _ h = absurd (omega arith)
enough (suc j) (suc k) n hj hk = go (ltb n 10) refl (λ big. enough j k (n / 10) (omega arith) (omega arith))
  where
    go : (b : Bool) → ltb n 10 ≡ b → (10 ≤ n → digits j (n / 10) ≡ digits k (n / 10)) → digits (suc j) n ≡ digits (suc k) n
    go true e rest = rw e
    go false e rest = rw (e, rest (ltb-false n 10 e))

-- A number below ten is its digit.
pub one_digit : (n : ℕ) → n < 10 → decimal n ≡ (48 + n) ∷ []
unfolding decimal
one_digit n h = rw (lt-ltb n 10 h)

-- The last digit of a larger number stands after those of its tenth.
pub last_digit : (n : ℕ) → 9 < n → decimal n ≡ decimal (n / 10) ++ ((48 + n % 10) ∷ [])
unfolding decimal
last_digit n h = rw (le-ltb n 10 h, enough n (suc (n / 10)) (n / 10) (omega arith) (omega arith))

pub one_digit_long : (n : ℕ) → n < 10 → length (decimal n) ≡ 1
one_digit_long n h = rw (one_digit n h)

pub last_digit_long : (n : ℕ) → 9 < n → length (decimal n) ≡ length (decimal (n / 10)) + 1
last_digit_long n h = rw (last_digit n h, length-append)

-- Two digits are those of the tenth and of what is left.
pub two_digits : (n : ℕ) → 9 < n → n < 100 → decimal n ≡ (48 + n / 10) ∷ (48 + n % 10) ∷ []
two_digits n h few = rw (last_digit n h, one_digit (n / 10) (omega arith))

pair_after : (l : List ℕ) (a b : ℕ) → (l ++ (a ∷ [])) ++ (b ∷ []) ≡ l ++ (a ∷ b ∷ [])
pair_after [] a b = refl
pair_after (x ∷ l) a b = ap {B = List ℕ} (λ r. x ∷ r) (pair_after l a b)

-- The last two digits of a number stand after those of its hundredth.
pub last_two : (n : ℕ) → 99 < n → decimal n ≡ decimal (n / 100) ++ ((48 + n % 100 / 10) ∷ (48 + n % 100 % 10) ∷ [])
last_two n h =
    let hundredth : n / 10 / 10 ≡ n / 100 = omega arith in
    let tens : n / 10 % 10 ≡ n % 100 / 10 = omega arith in
    let ones : n % 10 ≡ n % 100 % 10 = omega arith in
    rw (last_digit n (omega arith), last_digit (n / 10) (omega arith), hundredth, tens, ones) (pair_after (decimal (n / 100)) _ _)

pub last_two_long : (n : ℕ) → 99 < n → length (decimal n) ≡ length (decimal (n / 100)) + 2
last_two_long n h = rw (last_two n h, length-append)

-- Ten times the numbers have at most one digit more.
abbrev Below : ℕ → ℕ → Type 0
Below bound digits = (n : ℕ) → n < bound → length (decimal n) ≤ digits

more : (bound d : ℕ) → Below bound d → Below (10 * bound) (suc d)
more bound d small n h = go (dec_le n 9)
  where
    go : Dec (n ≤ 9) → length (decimal n) ≤ suc d
    go (yes p) = omega (arith, one_digit_long n (omega arith))
    go (no p) = omega (arith, last_digit_long n (omega arith), small (n / 10) (omega arith))

-- A number of two bytes has at most five digits.
pub five : (n : ℕ) → n < 100000 → length (decimal n) ≤ 5
five = more _ 4 (more _ 3 (more _ 2 (more _ 1 (λ n h. omega (arith, one_digit_long n h)))))

-- A number of eight bytes has at most twenty digits.
pub twenty : (n : ℕ) → n < 100000000000000000000 → length (decimal n) ≤ 20
twenty =
    more _ 19 (more _ 18 (more _ 17 (more _ 16 (more _ 15 (more _ 14 (more _ 13 (more _ 12 (more _ 11 (more _ 10
    (more _ 9 (more _ 8 (more _ 7 (more _ 6 (more _ 5 (more _ 4 (more _ 3 (more _ 2 (more _ 1
    (λ n h. omega (arith, one_digit_long n h))))))))))))))))))))
