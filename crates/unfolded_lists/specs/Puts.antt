-- When ranges of numbers can be put into a lent output.
use Rattle.std.specs.Prelude.{ℕ, ◌+◌, ◌≤◌, ◌<◌, List, T, length}
use Rattle.lists.specs.Lists.{mem}
use Rattle.segments.specs.Ranges.{ranged}

-- The numbers of a range fit in two bytes.
abbrev pub Small : ℕ → ℕ → Type 0
Small first size = (i : ℕ) → i < size → first + i < 65536

-- The numbers of so many ranges are numbers of unfolded conditions, and an output has room for them.
pub record Fits (starts sizes : List ℕ) (k room : ℕ) : Type 0 where
  pub low : (b : ℕ) → T (mem b (ranged starts sizes k)) → b < 65535
  pub enough : length (ranged starts sizes k) ≤ room
  pub in_starts : k ≤ length starts
  pub in_sizes : k ≤ length sizes
