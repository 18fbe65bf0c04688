-- Lift, project and exchange as answers: a run, or the refusal that comes first.
use Rattle.std.specs.Prelude.{Bool, true, false, not, ◌&&◌, cond, List, [], ◌∷◌, map, ℕ, suc, eqb, ltb, leb, length}
use Rattle.std.proofs.Math.Option.{Option, none, some}
use Rattle.lists.specs.Lists.{mem, any, failing, count}
use Rattle.model.specs.Net.{Net, begin, Stop, stop_number, stop_condition}
use Rattle.model.specs.Runs.{Marker, at_start, by_event, State, opening, step, Played, ends, refused, replay}
use Rattle.model.specs.Unfolding.{users, UnfoldedEvent, reads, origin, basic, idle}
use Rattle.model.specs.Numbering.{number, condition_count, event_count}
use Rattle.model.specs.Exchange.{apart_step, exchanged}

-- ---- refusals and answers

-- Conditions are numbered in the table, or in the unfolding (01, Unfolding; 02, No. 2).
pub data Whose : Type 0 where
  of_table : Whose
  of_unfolding : Whose

-- A refusal is a stopped step, whose conditions are numbered here or there, with its place, or a number with its place (01,
-- Refusal numbers).
pub data Refusal : Type 0 where
  stopped : Whose → Stop → ℕ → Refusal
  other : ℕ → ℕ → Refusal

-- The number of a refusal (01, Refusal numbers).
abbrev pub number_of : Refusal → ℕ
number_of (stopped w v k) = stop_number v
number_of (other x k) = x

-- The place of a refusal, which in a run is the step (01, Refusal numbers).
abbrev pub place_of : Refusal → ℕ
place_of (stopped w v k) = k
place_of (other x k) = k

-- The condition that stopped a step, if one did (02, No. 2).
abbrev pub by_of : Refusal → Option ℕ
by_of (stopped w v k) = stop_condition v
by_of (other x k) = none

-- Lift, project and exchange answer with a run or with a refusal (01, Runs across).
pub data Answer : Type 0 where
  run : List ℕ → Answer
  refusal : Refusal → Answer

-- What refuses first decides (01, Refusal numbers).
abbrev pub unless : Option Refusal → Answer → Answer
unless none a = a
unless (some x) a = refusal x

-- A replay that is refused, as a refusal (01, Refusal numbers).
abbrev pub stuck : Whose → Played → Option Refusal
stuck w (ends s) = none
stuck w (refused v k) = some (stopped w v k)

-- ---- limits

-- A run has at most this many steps (01, Table records).
abbrev pub most_steps : ℕ
most_steps = 4096

-- An unfolding has at most this many conditions, and as many events (01, Unfolding).
abbrev pub most_unfolded : ℕ
most_unfolded = 65535

-- A run that is too long is refused with 3 at 0 (01, Refusal numbers).
unfoldable pub too_long : List ℕ → Option Refusal
too_long r = cond (leb (length r) most_steps) none (some (other 3 0))

-- An unfolding is within the limits if neither of its counts passes the most there may be (01, Unfolding).
unfoldable pub within : Net → Bool
unfolding condition_count event_count
within n = leb (condition_count n) most_unfolded && leb (event_count n) most_unfolded

-- The lowest event that touches nothing once unfolded, if there is one (01, Refusal numbers).
unfoldable pub lowest_idle : Net → Option ℕ
unfolding idle
lowest_idle n = failing (λ e. not (idle n e)) (count 0 n.events)

-- An event that touches nothing is refused with 13 at its number, before the limits with 14 at 0 (01, Refusal numbers).
abbrev pub idle_or_over : Option ℕ → Bool → Option Refusal
idle_or_over (some e) w = some (other 13 e)
idle_or_over none true = none
idle_or_over none false = some (other 14 0)

-- What refuses the unfolding of a table, if anything does (01, Refusal numbers).
unfoldable pub unfolding_refused : Net → Option Refusal
unfolding lowest_idle within
unfolding_refused n = idle_or_over (lowest_idle n) (within n)

-- ---- lift

-- A rule for lifting tells which marker an event picks for a persistent precondition, and which occurrence is a repeat (01,
-- Runs across).
pub record Lifting : Type 0 where
  pub pick : State → ℕ → ℕ → Marker
  pub repeats : State → ℕ → Bool

-- The first marker, and the start where there is none (01, Runs across).
abbrev pub or_start : Option Marker → Marker
or_start none = at_start
or_start (some m) = m

-- An event marks for others if a persistent postcondition of it has a user other than itself (02, No. 3).
unfoldable pub marks_for_others : Net → ℕ → Bool
unfolding users
marks_for_others n e = any (λ b. n.persistent b && any (λ u. not (eqb u e)) (users n b)) (n.postconditions e)

-- The rule: an event that has occurred picks itself for a condition that it marks, and else the earliest marker is picked; a later
-- occurrence of an event that marks for others is a repeat (02, No. 3; paper, theorem 6.1).
unfoldable pub own_or_earliest : Net → Lifting
unfolding marks_for_others
own_or_earliest n =
    record {
      pick = λ s e b. cond (s.seen e && mem b (n.postconditions e)) (by_event e) (or_start (s.first b));
      repeats = λ s e. marks_for_others n e && s.seen e;
    }

-- The unfolded event that an event fired at a state becomes: it picks a marker for each persistent precondition (01, Runs
-- across).
unfoldable pub coloured : Net → Lifting → State → ℕ → UnfoldedEvent
unfolding reads
coloured n l s e = record { event = e; colour = map (l.pick s e) (reads n e) }

-- The numbers of the unfolded events of a run begun at a state (01, Runs across).
unfoldable pub lifted : Net → Lifting → State → List ℕ → List ℕ
unfolding step coloured number
lifted n l s [] = []
lifted n l s (e ∷ r) = number n (coloured n l s e) ∷ lifted n l (step n s e) r

-- The step of the first repeat in a run begun at a state, steps counted from k (01, Refusal numbers).
unfoldable pub repeated : Net → Lifting → ℕ → State → List ℕ → Option ℕ
unfolding step
repeated n l k s [] = none
repeated n l k s (e ∷ r) = elim (l.repeats s e) [ true ↦ some k | false ↦ repeated n l (suc k) (step n s e) r ]

-- A repeat is refused with 15 at its step (01, Refusal numbers).
abbrev pub again : Option ℕ → Option Refusal
again none = none
again (some k) = some (other 15 k)

-- The lift of a run begun at a state, its steps counted from k: all steps are replayed before a repeat is looked for (01,
-- Refusal numbers).
unfoldable pub lifting : Net → Lifting → ℕ → State → List ℕ → Answer
unfolding replay repeated lifted
lifting n l k s r = unless (stuck of_table (replay n k s r)) (unless (again (repeated n l k s r)) (run (lifted n l s r)))

-- The lift of a run of a table: 3, then 13 and 14, then its steps and 15 (01, Runs across and Refusal numbers).
unfoldable pub lift : Net → List ℕ → Answer
unfolding too_long unfolding_refused lifting own_or_earliest opening
lift n r = unless (too_long r) (unless (unfolding_refused n) (lifting n (own_or_earliest n) 0 (opening n) r))

-- ---- project

-- An unfolded run reads back as the events behind its numbers (01, Runs across).
unfoldable pub read_back : Net → List ℕ → List ℕ
unfolding origin
read_back n w = map (λ j. (origin n j).event) w

-- An unfolded run is replayed in the unfolded net and then read back (01, Runs across).
unfoldable pub projecting : Net → List ℕ → Answer
unfolding replay opening basic read_back
projecting n w = unless (stuck of_unfolding (replay (basic n) 0 (opening (basic n)) w)) (run (read_back n w))

-- The projection of a run of the unfolding: 3, then 13 and 14, then its steps (01, Runs across and Refusal numbers).
unfoldable pub project : Net → List ℕ → Answer
unfolding too_long unfolding_refused projecting
project n w = unless (too_long w) (unless (unfolding_refused n) (projecting n w))

-- ---- exchange

-- There must be a step k + 1, else 10 at k (01, Refusal numbers).
unfoldable pub no_step : List ℕ → ℕ → Option Refusal
no_step r k = cond (ltb (suc k) (length r)) none (some (other 10 k))

-- The two steps must be free to change places, else 17 at k (01, Refusal numbers).
unfoldable pub not_apart : Net → List ℕ → ℕ → Option Refusal
unfolding apart_step begin
not_apart n r k = cond (apart_step n (begin n) r k) none (some (other 17 k))

-- The exchange of steps k and k + 1: the run is replayed first, then 10 and 17 (01, Runs across and Refusal numbers).
unfoldable pub exchanging : Net → List ℕ → ℕ → Answer
unfolding replay opening no_step not_apart
exchanging n r k = unless (stuck of_table (replay n 0 (opening n) r)) (unless (no_step r k) (unless (not_apart n r k) (run (exchanged k r))))

-- The exchange in a run of a table, which does not concern the unfolding: 3, then the above (01, Refusal numbers).
unfoldable pub exchange : Net → List ℕ → ℕ → Answer
unfolding too_long exchanging
exchange n r k = unless (too_long r) (exchanging n r k)
