-- What is kept of a table for a run across, and where a number lies between sums.
use Rattle.std.specs.Prelude.{ℕ, ◌+◌, ◌≤◌, ◌<◌, ◌≡◌, List, leb, length, get_or, Ok}
use Rattle.model.specs.Numbering.{size}
use Rattle.model.specs.Across.{most_steps, unfolding_refused}
use Rattle.refusal.specs.Answer.{Judged, need, and_then}
use Rattle.table.specs.Walk.{judge_of}
use Rattle.table.specs.Decoded.{net_of}
use Rattle.table.specs.Links.{refused_or}
use Rattle.layout.specs.Laid.{Sums, Laid}

-- The same prefix for a run of which only the number of steps is known (01, Refusal numbers).
unfoldable pub prepared_of : List ℕ → ℕ → Judged → Judged
prepared_of s steps own = and_then (judge_of s) (λ _. need (leb steps most_steps) 3 0 (refused_or (unfolding_refused (net_of s)) own))

-- The numbers of a table laid out for a run, and the run is short enough (01, Unfolding).
pub record Ready (s : List ℕ) (steps : ℕ) (markers users bases before : List ℕ) : Type 0 where
  pub short : steps ≤ most_steps
  pub laid : Laid s markers users bases
  pub sizes : Sums (size (net_of s)) (net_of s).events before

-- What laying out for a run answers: the prefix with the number of the table's events, and the numbers where it is fine.
pub record Prepared (s : List ℕ) (steps : ℕ) (r : Judged) (markers users bases before : List ℕ) : Type 0 where
  pub answer : r ≡ prepared_of s steps (Ok (net_of s).events)
  pub ready : (k : ℕ) → r ≡ Ok k → Ready s steps markers users bases before

-- A number lies at or past what stands at one place of a list, and before what stands at a later one.
pub record Around (before : List ℕ) (low high j : ℕ) : Type 0 where
  pub within : high < length before
  pub apart : low < high
  pub from : get_or before low 0 ≤ j
  pub to : j < get_or before high 0

-- Event e of so many is the one that unfolded event j belongs to: j is at or past the sum before e, and before the next (01,
-- Unfolding).
pub record Between (before : List ℕ) (events j e : ℕ) : Type 0 where
  pub event : e < events
  pub from : get_or before e 0 ≤ j
  pub to : j < get_or before (e + 1) 0
