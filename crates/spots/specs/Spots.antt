-- Where an arc of an export stands, kept by value, and what the walks over the arcs need and leave.
use Rattle.std.specs.Prelude.{Option, None, Some, ℕ, ◌+◌, ◌*◌, ◌≤◌, ◌<◌, ◌≡◌, List, length, get_or}
use Rattle.lists.specs.Lists.{sum}
use Rattle.model.specs.Net.{Net}
use Rattle.model.specs.Numbering.{size, event_count}
use Rattle.refusal.specs.Answer.{Judged}
use Rattle.table.specs.Decoded.{net_of}
use Rattle.layout.specs.Laid.{Laid}
use Rattle.layout.specs.Unfolds.{unfolding_of}
use Rattle.unfolding.specs.Numbers.{Belongs}
use Rattle.unfolding.specs.declared.Coloured.{Coloured}
use Rattle.segments.specs.Ranges.{Owned}
use Rattle.arcs.specs.Arcs.{exported, arcs_at, arcs_before, Arcs, Shared}
use Rattle.spots.specs.declared.Spot.{Spot}
use Rattle.spots.specs.declared.Reached.{Reached}

-- The transition that what is left of an event's number names (02, No. 1).
abbrev pub transition_of : Net → Coloured → ℕ
transition_of n own = sum (size n) own.event + own.rest

-- How many arcs an export has (02, No. 1).
abbrev pub arc_count : Net → ℕ
arc_count n = arcs_before n (exported n).transitions

-- The sum of the first sizes.
abbrev pub sizes_before : List ℕ → ℕ → ℕ
sizes_before sizes r = sum (λ i. get_or sizes i 0) r

-- ---- a transition that is open

-- The lent numbers and ranges are those of a transition, whose arcs come after so many others (02, No. 1).
pub record Open (s ms us bs marks uses starts sizes : List ℕ) (own : Coloured) (transition before : ℕ) : Type 0 where
  pub owned : Owned s ms us bs own.event own.at own.weight own.rest
  pub shared : Shared s own.event marks uses
  pub arcs : Arcs (net_of s) transition starts sizes
  pub told : transition ≡ transition_of (net_of s) own
  pub counted : before ≡ arcs_before (net_of s) transition

-- A spot is that of an arc: its transition is open, and its range and offset tell its number (02, No. 1).
pub record Spotted (s ms us bs marks uses starts sizes : List ℕ) (p : Spot) : Type 0 where
  pub before : ℕ
  pub opened : Open s ms us bs marks uses starts sizes p.own p.transition before
  pub here : p.range < 8 * (net_of s).conditions
  pub inside : p.offset < get_or sizes p.range 0
  pub counted : p.number ≡ before + (sizes_before sizes p.range + p.offset)

-- The first range from one on that is not empty, or the number of all ranges where each is empty.
pub record Skips (sizes : List ℕ) (ranges from r : ℕ) : Type 0 where
  pub within : r ≤ ranges
  pub same : sizes_before sizes r ≡ sizes_before sizes from
  pub some : r < ranges → 0 < get_or sizes r 0

-- The next arc of the same transition, in a range at an offset (02, No. 1).
abbrev pub moved_to : Spot → ℕ → ℕ → Spot
moved_to p range offset = record { own = p.own; transition = p.transition; number = p.number + 1; range = range; offset = offset }

-- ---- on the way from transition to transition

-- Lent memory for one transition has its size.
pub record Sized (marks uses starts sizes : List ℕ) : Type 0 where
  pub in_marks : length marks ≡ 256
  pub in_uses : length uses ≡ 256
  pub in_starts : length starts ≡ 2048
  pub in_sizes : length sizes ≡ 2048

-- A table that unfolds and is laid out, with the number of its events (01, Unfolding).
pub record Unfolds (s ms us bs : List ℕ) (events : ℕ) : Type 0 where
  pub laid : Laid s ms us bs
  pub unfolds : (own : Judged) → unfolding_of s own ≡ own
  pub all : events ≡ (net_of s).events

-- A transition that is due: its owner or that there is none, how many arcs come before its own, and lent memory that may be that of the
-- transition before it (02, No. 1).
pub record Due (s ms us bs marks uses starts sizes : List ℕ) (f : Option Coloured) (transition before : ℕ) : Type 0 where
  pub table : Unfolds s ms us bs (net_of s).events
  pub sized : Sized marks uses starts sizes
  pub belongs : Belongs s transition f
  pub within : transition ≤ event_count (net_of s)
  pub counted : before ≡ arcs_before (net_of s) transition
  pub lent : (own : Coloured) → f ≡ Some own → 0 < own.rest → Shared s own.event marks uses

-- What the number of an unfolded event names, as it is found (01, Unfolding).
abbrev pub found_by : Coloured → Option Coloured
found_by own = Some own

-- The arc with a number, or that there is none and the number is that of all arcs (02, No. 1).
abbrev pub Reads : List ℕ → List ℕ → List ℕ → List ℕ → List ℕ → List ℕ → List ℕ → List ℕ → ℕ → Option Spot → Type 0
Reads s ms us bs marks uses starts sizes a (Some p) = Spotted s ms us bs marks uses starts sizes p × (p.number ≡ a)
Reads s ms us bs marks uses starts sizes a None = a ≡ arc_count (net_of s)

-- Where a search for an arc by number ends: at the transition that has it, or after all arcs (02, No. 1).
pub record Reaches (s ms us bs : List ℕ) (wanted : ℕ) (marks uses starts sizes : List ℕ) (r : Reached) : Type 0 where
  pub opened : 0 < r.arcs → Open s ms us bs marks uses starts sizes r.own r.transition r.before
  pub holds : 0 < r.arcs → r.arcs ≡ arcs_at (net_of s) r.transition
  pub from : r.before ≤ wanted
  pub whole : r.before + r.arcs ≤ wanted → r.before + r.arcs ≡ arc_count (net_of s)

-- A search that found no transition after so many arcs.
abbrev pub at_none : ℕ → Reached
at_none before = record { own = record { event = 0; at = 0; weight = 0; rest = 0 }; transition = 0; before = before; arcs = 0 }

-- A wanted number stands among the numbers of some ranges, which come after so many others.
pub record Holding (sizes : List ℕ) (before wanted : ℕ) : Type 0 where
  pub ranges : ℕ
  pub in_sizes : ranges ≤ length sizes
  pub from : before ≤ wanted
  pub below : wanted < before + sizes_before sizes ranges
  pub few : sizes_before sizes ranges ≤ 262140

-- A range and an offset tell the wanted number (02, No. 1).
pub record Held (sizes : List ℕ) (reached : Reached) (wanted : ℕ) (p : Spot) : Type 0 where
  pub owned : p.own ≡ reached.own
  pub opened : p.transition ≡ reached.transition
  pub told : p.number ≡ wanted
  pub inside : p.offset < get_or sizes p.range 0
  pub counted : wanted ≡ reached.before + (sizes_before sizes p.range + p.offset)
