-- What the walk down a list of preconditions needs and tells: what a list of markers comes to.
use Rattle.std.specs.Prelude.{ℕ, ◌≤◌, ◌<◌, cond, List, T, Option, None, Some}
use Rattle.lists.specs.Lists.{mem}
use Rattle.model.specs.Runs.{Marker}
use Rattle.model.specs.Numbering.{ways, radix}
use Rattle.model.specs.Across.{most_unfolded}
use Rattle.unfolding.specs.Numbers.{Within, choices_of, all_mark}

-- What a list of markers comes to: the place among the colours, or that it is no colour (01, Unfolding).
abbrev pub weighed : List (List Marker) → List Marker → Option ℕ
weighed mss c = cond (all_mark mss c) (Some (radix mss c)) None

-- What must hold to put markers together into a number.
pub record Weighing (s ms : List ℕ) (events : ℕ) (l : List ℕ) : Type 0 where
  pub within : Within s ms events
  pub inside : (b : ℕ) → T (mem b l) → b < 256
  pub limit : ways (choices_of s l) ≤ most_unfolded
