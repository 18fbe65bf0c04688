-- Numbers in decimal, as the bytes of their digits.
use Rattle.std.specs.Prelude.{cond, List, [], ◌∷◌, ◌++◌, ℕ, zero, suc, ◌+◌, ◌/◌, ◌%◌, ltb}

-- The digits of a number, k of them at most, the highest first (01, Nets to test with: Listing).
abbrev pub digits : ℕ → ℕ → List ℕ
digits zero n = []
digits (suc k) n = cond (ltb n 10) ((48 + n) ∷ []) (digits k (n / 10) ++ ((48 + n % 10) ∷ []))

-- A number in decimal; n + 1 digits are always enough (01, Nets to test with: Listing).
unfoldable pub decimal : ℕ → List ℕ
decimal n = digits (suc n) n
