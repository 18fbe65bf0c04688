-- What is known of the bytes along the steps of an unfolded run.
use Rattle.std.specs.Prelude.{ℕ, ◌+◌, ◌≤◌, ◌<◌, ◌≡◌, false, List, map, T, length, get_or, take, Ok, Err}
use Rattle.std.proofs.Math.Option.{Option, none}
use Rattle.model.specs.Net.{Net, Marking, begin, Stop, stopping}
use Rattle.model.specs.Runs.{State, opening, after, runs, end, replay}
use Rattle.model.specs.Unfolding.{reads, origin, basic}
use Rattle.model.specs.Numbering.{size, condition_count, event_count}
use Rattle.model.specs.Across.{of_unfolding, stuck, most_steps, most_unfolded, read_back}
use Rattle.model.specs.Lent.{bytes, marking}
use Rattle.refusal.specs.Answer.{Judged}
use Rattle.table.specs.Walk.{judge_of}
use Rattle.table.specs.Decoded.{net_of}
use Rattle.table.specs.Links.{refused_or}
use Rattle.layout.specs.Laid.{Sums, Counted, Marked}
use Rattle.step.specs.Lent.{Lent}
use Rattle.step.specs.Steps.{record_net}
use Rattle.stopping.specs.Unfolded.{Step, step_of}
use Rattle.played.specs.Played.{Indexed}
use Rattle.tally.specs.Having.{Tally}
use Rattle.across.specs.Prepared.{Between}
use Rattle.decided.specs.Decided.{stopped_by}
use Rattle.decided.specs.Kept.{marker_at, Kept, Deciding}
use Rattle.located.specs.Located.{Locating}

-- A judged table with all that the numbers of its unfolded events are taken apart by: offsets, numbers of markers, and sums.
pub record Numbered (s offsets ms before : List ℕ) : Type 0 where
  pub judged : judge_of s ≡ Ok (length offsets)
  pub indexed : Indexed s (length offsets) offsets
  pub marked : Marked s ms
  pub few : event_count (net_of s) ≤ most_unfolded
  pub sizes : Sums (size (net_of s)) (net_of s).events before

-- Such a table with all that its unfolded steps are decided by, and that what stops them is told by: the numbers of users and its start
-- too.
pub record Equipped (s offsets ms us before begun : List ℕ) : Type 0 where
  pub numbered : Numbered s offsets ms before
  pub few_conditions : condition_count (net_of s) ≤ most_unfolded
  pub uses : Tally (net_of s) false 0 (net_of s).events us
  pub start : begun ≡ bytes 256 (begin (net_of s))

-- The table's state after the first k steps of an unfolded run, read back (01, Runs across).
abbrev pub state_at : Net → List ℕ → ℕ → State
state_at n w k = after n (opening n) (read_back n (take k w))

-- The unfolded marking after them, which no byte holds (01, Unfolding).
abbrev pub unfolded_at : Net → List ℕ → ℕ → Marking
unfolded_at n w k = end (basic n) (begin (basic n)) (take k w)

-- The first k steps are a run of the unfolded net; the bytes tell the table's marking after them and the events that have occurred.
pub record Walked (n : Net) (w : List ℕ) (k : ℕ) (state seen places kept : List ℕ) : Type 0 where
  pub short : length w ≤ most_steps
  pub upto : k ≤ length w
  pub plays : T (runs (basic n) (begin (basic n)) (take k w))
  pub lents : Lent state
  pub long : length state ≡ 256
  pub here : marking state ≡ (state_at n w k).marking
  pub noted : Lent seen
  pub wide : length seen ≡ 256
  pub occurred : marking seen ≡ (state_at n w k).seen
  pub held : Kept n places kept

-- Such a table, and an unfolded run of it that is walked as far as its step k.
pub record Underway (s offsets ms us before begun w : List ℕ) (k : ℕ) (state seen places kept : List ℕ) : Type 0 where
  pub equipped : Equipped s offsets ms us before begun
  pub walked : Walked (net_of s) w k state seen places kept

-- The unfolded event with a number is one of event e, and its colour stands by condition (01, Unfolding).
pub record Coloured (n : Net) (j e : ℕ) (places kept : List ℕ) : Type 0 where
  pub event : e < n.events
  pub whole : origin n j ≡ record { event = e; colour = map (marker_at n places) (reads n e) }
  pub held : Kept n places kept

-- A step answers that it goes, and then the bytes are one step on, or with what stops it in the unfolded net (01, Refusal numbers; 02,
-- No. 2).
abbrev pub Stepped : Net → List ℕ → ℕ → Step → List ℕ → List ℕ → List ℕ → List ℕ → Type 0
Stepped n w k (Ok done) state seen places kept = Walked n w (k + 1) state seen places kept
Stepped n w k (Err x) state seen places kept = step_of (stopping (basic n) (unfolded_at n w k) (get_or w k 0)) ≡ Err x

-- An event can be fired on bytes: nothing stops the one whose record stands at an offset.
pub record Fires (s : List ℕ) (at : ℕ) (state : List ℕ) : Type 0 where
  pub lents : Lent state
  pub goes : stopping (record_net s at) (marking state) 0 ≡ none

-- What stops the step of event e on bytes, with the markers at the places that are kept (01, Refusal numbers).
abbrev pub stops_at : List ℕ → ℕ → List ℕ → List ℕ → List ℕ → Option Stop
stops_at s e state seen places = stopped_by (net_of s) (marking state) (marking seen) (marker_at (net_of s) places) e

-- The step of event e, whose record stands at an offset, can be decided on bytes, and where nothing stops it the event can be fired.
pub record Trying (s us : List ℕ) (at e : ℕ) (begun state seen places kept : List ℕ) : Type 0 where
  pub deciding : Deciding s us at e begun places kept
  pub room : e < length seen
  pub fires : stops_at s e state seen places ≡ none → Fires s at state

-- The same for the event whose record stands at its offset, with all that what stops it is told by.
pub record Tried (s offsets ms us begun : List ℕ) (e : ℕ) (state seen places kept : List ℕ) : Type 0 where
  pub below : e < length offsets
  pub trying : Trying s us (get_or offsets e 0) e begun state seen places kept
  pub locating : Locating s ms us (length offsets) e places kept

-- All steps replayed: the answer is what the unfolded net's replay says, and where it is fine the bytes tell the end (01, Refusal
-- numbers).
pub record Replayed (n : Net) (w : List ℕ) (r : Judged) (state seen : List ℕ) : Type 0 where
  pub told : r ≡ refused_or (stuck of_unfolding (replay (basic n) 0 (opening (basic n)) w)) (Ok (length w))
  pub plays : (x : ℕ) → r ≡ Ok x → T (runs (basic n) (begin (basic n)) w)
  pub lents : (x : ℕ) → r ≡ Ok x → (state ≡ bytes 256 (marking state)) × (seen ≡ bytes 256 (marking seen))
  pub here : (x : ℕ) → r ≡ Ok x → marking state ≡ (state_at n w (length w)).marking
  pub occurred : (x : ℕ) → r ≡ Ok x → marking seen ≡ (state_at n w (length w)).seen

-- A judged table with the numbers that the replay of an unfolded run needs, and a run that is short enough.
pub record Replayable (s : List ℕ) (events : ℕ) (ms us before w : List ℕ) : Type 0 where
  pub short : length w ≤ most_steps
  pub judged : judge_of s ≡ Ok events
  pub counted : Counted s ms us
  pub few : event_count (net_of s) ≤ most_unfolded
  pub few_conditions : condition_count (net_of s) ≤ most_unfolded
  pub sizes : Sums (size (net_of s)) (net_of s).events before

-- Each number of a run lies before the last of so many sums.
pub record Reading (before : List ℕ) (events : ℕ) (w : List ℕ) : Type 0 where
  pub few : events ≤ 256
  pub first : get_or before 0 0 ≡ 0
  pub size : length before ≡ 257
  pub each : (k : ℕ) → k < length w → get_or w k 0 < get_or before events 0

-- An output into which the first k numbers of a run are read back: for each the event that it belongs to, then what was there (01,
-- Runs across).
pub record Read (before : List ℕ) (events : ℕ) (w : List ℕ) (k : ℕ) (old new : List ℕ) : Type 0 where
  pub long : length new ≡ length old
  pub events_of_lem : (i : ℕ) → i < k → Between before events (get_or w i 0) (get_or new i 0)
  pub rest : (i : ℕ) → k ≤ i → get_or new i 0 ≡ get_or old i 0
