-- What a walk along a run needs, and what it tells of the state that the run ends in.
use Rattle.std.specs.Prelude.{ℕ, ◌<◌, ◌≡◌, List, T, eqb, length, get_or, Ok}
use Rattle.model.specs.Net.{Net, begin}
use Rattle.model.specs.Runs.{runs, State, opening, after}
use Rattle.model.specs.Across.{own_or_earliest, repeated}
use Rattle.table.specs.Walk.{judge_of}
use Rattle.table.specs.Decoded.{net_of}
use Rattle.played.specs.Played.{Indexed}
use Rattle.firsts.specs.declared.Walked.{Walked}
use Rattle.firsts.specs.Firsts.{Slot, first_at, repeat_of}

-- A judged table with its index, and a run of it from its start.
pub record Walkable (s : List ℕ) (events : ℕ) (offsets r : List ℕ) : Type 0 where
  pub judged : judge_of s ≡ Ok events
  pub indexed : Indexed s events offsets
  pub plays : T (runs (net_of s) (begin (net_of s)) r)

-- Slots tell the first markers of a state (01, Runs across).
pub record Tells (t : State) (slots : List Slot) : Type 0 where
  pub size : length slots ≡ 256
  pub each : (b : ℕ) → b < 256 → first_at slots b ≡ t.first b

-- Bytes tell which events have occurred, a byte of 1 for each that has (01, Runs across).
pub record Occurred (t : State) (seen : List ℕ) : Type 0 where
  pub size : length seen ≡ 256
  pub each : (e : ℕ) → e < 256 → eqb (get_or seen e 0) 1 ≡ t.seen e

-- What a walk along a run tells: the first markers at its end, the events that occurred, and the first repeat (01, Runs across and
-- Refusal numbers; 02, No. 3).
pub record Walks (n : Net) (r : List ℕ) (w : Walked) (seen : List ℕ) : Type 0 where
  pub firsts : Tells (after n (opening n) r) w.firsts.slots
  pub seens : Occurred (after n (opening n) r) seen
  pub repeat : repeat_of w.repeat ≡ repeated n (own_or_earliest n) 0 (opening n) r
