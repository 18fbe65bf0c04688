-- What stops a step of the table, told by unfolded conditions: what is known where it is told, and the answer back as a stop.
use Rattle.std.specs.Prelude.{ℕ, ◌≤◌, ◌<◌, ◌≡◌, true, false, not, ◌&&◌, cond, List, T, eqb, get_or, Ok, Err}
use Rattle.std.proofs.Math.Option.{Option, none, some}
use Rattle.lists.specs.Lists.{mem, all}
use Rattle.model.specs.Net.{Net, Marking, Stop, unknown, lacks, meets}
use Rattle.model.specs.Unfolding.{users}
use Rattle.model.specs.Numbering.{condition_count}
use Rattle.model.specs.Across.{most_unfolded}
use Rattle.table.specs.Decoded.{net_of}
use Rattle.layout.specs.Laid.{Counted}
use Rattle.stopping.specs.Table.{Cause, Step, step_of}
use Rattle.stopping.specs.declared.Cause.TheVariants.{Unknown, Lacks, Meets}
use Rattle.decided.specs.Decided.{Picks, Seen, given_back, stopped_by}
use Rattle.decided.specs.Kept.{Kept}

-- ---- an answer read back

-- What a cause says (01, Refusal numbers).
abbrev pub said_by : Cause → Stop
said_by Unknown = unknown
said_by (Lacks b) = lacks b.0
said_by (Meets b) = meets b.0

-- What a step's answer says that stops it (01, Refusal numbers).
abbrev pub stop_of : Step → Option Stop
stop_of (Ok done) = none
stop_of (Err x) = some (said_by x)

-- ---- the copy that is met

-- How many users of b come before the first whose copy that e marks is not given back, by the kept marker and by e's place among them: one
-- where that place is the first and e the kept marker (01, Unfolding).
abbrev pub passed_at : ℕ → List ℕ → List ℕ → ℕ → ℕ → ℕ
passed_at e places kept b place = cond ((not (eqb (get_or places b 0) 0) && eqb e (get_or kept b 0)) && eqb place 0) 1 0

-- ---- what is known

-- The numbers of a table with few enough unfolded conditions, its event e, and the markers that are kept for e's persistent preconditions.
pub record Locating (s ms us : List ℕ) (events e : ℕ) (places kept : List ℕ) : Type 0 where
  pub counted : Counted s ms us
  pub few : condition_count (net_of s) ≤ most_unfolded
  pub all : events ≡ (net_of s).events
  pub event : e < (net_of s).events
  pub held : Kept (net_of s) places kept

-- Some user's copy of b that e marks is not given back, where b is persistent (01, Unfolding).
abbrev pub Left : Net → Picks → ℕ → ℕ → Type 0
Left n pick e b = n.persistent b ≡ true → all (given_back pick e b) (users n b) ≡ false

-- The condition of a cause is one of e's that can stop it (01, Refusal numbers).
abbrev pub Named : Net → Picks → ℕ → Cause → Type 0
Named n pick e Unknown = Unit {0}
Named n pick e (Lacks b) = T (mem b.0 (n.preconditions e))
Named n pick e (Meets b) = T (mem b.0 (n.postconditions e)) × Left n pick e b.0

-- A step's answer tells what stops an unfolded event of e at some marking, after some events have occurred (01, Refusal numbers).
pub record Told (n : Net) (pick : Picks) (e : ℕ) (step : Step) : Type 0 where
  pub marking : Marking
  pub seen : Seen
  pub told : step ≡ step_of (stopped_by n marking seen pick e)
