-- Which condition an unfolded condition's number belongs to.
use Rattle.std.specs.Prelude.{ℕ, ◌+◌, ◌≤◌, ◌<◌}
use Rattle.lists.specs.Lists.{sum}

-- Of c conditions with so many copies each, the one that a number falls to, or c where it is past the last (01, Unfolding).
pub record Owns (f : ℕ → ℕ) (c i b : ℕ) : Type 0 where
  pub most : b ≤ c
  pub from : sum f b ≤ i
  pub below : b < c → i < sum f b + f b
