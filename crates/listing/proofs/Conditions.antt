-- How long the words for a condition are: its number has two bytes, as every value of its type.
use Prim.Native.Nat.{ℕ, ◌≤◌, ◌<◌}
use native.Mathlib.Omega.{arith}
use mathlib.Core.Option.{none, some}
use lib.ListN.{length, length-append}
use Rattle.refusal.specs.Answer.{By, condition_of, condition_number}
use Rattle.std.specs.Prelude.{None, Some, IfSome}
use Rattle.spelling.proofs.Decimal.{twenty}
use Rattle.listing.specs.Text.{by_words}

condition_short : (b : ℕ) → b < 65536 → length (by_words (some b)) ≤ 24
unfolding by_words
condition_short b h = rw length-append (omega (arith, twenty b (omega arith)))

none_short : length (by_words none) ≤ 24
unfolding by_words
none_short = omega arith

-- The words for what stopped a step have at most twenty-four bytes, where its number has two.
pub by_short : (by : By) → IfSome by (λ condition. condition_number condition < 65536) → length (by_words (condition_of by)) ≤ 24
by_short None h = none_short
by_short (Some condition) h = condition_short (condition_number condition) h
