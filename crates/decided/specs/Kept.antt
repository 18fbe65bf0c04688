-- What the code keeps to decide steps: for each condition a place among its markers with the event at it, and tests over these numbers.
use Rattle.std.specs.Prelude.{ℕ, zero, suc, ◌≤◌, ◌<◌, ◌≡◌, Bool, true, false, not, ◌&&◌, ◌||◌, cond, List, [], map, T, eqb, length, get_or}
use Rattle.lists.specs.Lists.{mem, ascending, keep}
use Rattle.model.specs.Net.{Net, begin}
use Rattle.model.specs.Runs.{Marker, at_start, by_event}
use Rattle.model.specs.Unfolding.{markers}
use Rattle.model.specs.Numbering.{digits}
use Rattle.model.specs.Lent.{bytes, marking}
use Rattle.records.specs.Records.{old_rule}
use Rattle.table.specs.Decoded.{net_of}
use Rattle.table.specs.Walk.{offset_of}
use Rattle.colours.specs.Colours.{flagged}
use Rattle.tally.specs.Having.{Tally}
use Rattle.unfolding.specs.Numbers.{choices_of}
use Rattle.events.specs.Numbers.{Picking}

-- ---- the kept places

-- The marker at the place that stands for a condition, among those of the condition (01, Unfolding).
abbrev pub marker_at : Net → List ℕ → ℕ → Marker
marker_at n places b = get_or (markers n b) (get_or places b 0) at_start

-- A marker by its place and the event that is kept for it: the start stands at place 0 (01, Unfolding).
abbrev pub kept_marker : ℕ → ℕ → Marker
kept_marker zero e = at_start
kept_marker (suc p) e = by_event e

-- What is kept for each condition is the event at its place (01, Unfolding).
pub record Kept (n : Net) (places kept : List ℕ) : Type 0 where
  pub size : length places ≡ 256
  pub room : length kept ≡ 256
  pub each : (b : ℕ) → b < 256 → marker_at n places b ≡ kept_marker (get_or places b 0) (get_or kept b 0)

-- What must hold to keep the marker at a place among those of condition b.
pub record Keeping (s : List ℕ) (events b place : ℕ) (places kept : List ℕ) : Type 0 where
  pub all : events ≡ (net_of s).events
  pub few : events ≤ 256
  pub low : b < 256
  pub inside : place < length (markers (net_of s) b)
  pub held : Kept (net_of s) places kept

-- What must hold to lay the colour with a number out by condition.
pub record Choosing (s ms : List ℕ) (events : ℕ) (l : List ℕ) (weight rest : ℕ) (places kept : List ℕ) : Type 0 where
  pub picking : Picking s ms events l weight rest
  pub ascends : T (ascending (keep (net_of s).persistent l))
  pub held : Kept (net_of s) places kept

-- The colour with a number stands by condition, and the places of all but the persistent ones of the list are as they were.
pub record Chosen (s l : List ℕ) (rest : ℕ) (before places kept : List ℕ) : Type 0 where
  pub held : Kept (net_of s) places kept
  pub colour : map (marker_at (net_of s) places) (keep (net_of s).persistent l) ≡ digits (choices_of s l) rest
  pub others : (b : ℕ) → mem b (keep (net_of s).persistent l) ≡ false → get_or places b 0 ≡ get_or before b 0

-- ---- the tests over the numbers

-- The kept marker of a condition has marked it (01, Runs across).
abbrev pub marked_at : List ℕ → List ℕ → List ℕ → List ℕ → ℕ → Bool
marked_at begun seen places kept b = cond (eqb (get_or places b 0) 0) (marking begun b) (marking seen (get_or kept b 0))

-- What a precondition must pass (01, Unfolding).
abbrev pub ready_at : List ℕ → List ℕ → List ℕ → List ℕ → List ℕ → List ℕ → ℕ → Bool
ready_at s state begun seen places kept b = cond (flagged s b) (marked_at begun seen places kept b) (marking state b)

-- Each copy of a condition that event e marks is given back: it has no user, or e alone, and e is its kept marker (01, Unfolding).
abbrev pub back_at : List ℕ → List ℕ → ℕ → List ℕ → List ℕ → ℕ → Bool
back_at users pre e places kept b =
    cond (eqb (get_or users b 0) 0) true (cond (eqb (get_or users b 0) 1) (mem b pre && (not (eqb (get_or places b 0) 0) && eqb e (get_or kept b 0))) false)

-- The preconditions that excuse from contact: none under the old rule (02, No. 4).
abbrev pub excused : List ℕ → List ℕ → List ℕ
excused s pre = cond (old_rule s) [] pre

-- What a postcondition of event e must pass, where e has occurred before or not (01, Unfolding; 02, No. 4).
abbrev pub clear_at : List ℕ → List ℕ → List ℕ → ℕ → Bool → List ℕ → List ℕ → List ℕ → ℕ → Bool
clear_at s users pre e again state places kept b =
    cond (flagged s b) (not again || back_at users pre e places kept b) (not (marking state b) || mem b (excused s pre))

-- What must hold to decide the step of event e, whose record stands at an offset.
pub record Deciding (s us : List ℕ) (at e : ℕ) (begun places kept : List ℕ) : Type 0 where
  pub flags : (b : ℕ) → flagged s b ≡ (net_of s).persistent b
  pub uses : Tally (net_of s) false 0 (net_of s).events us
  pub event : e < (net_of s).events
  pub offset : at ≡ offset_of s e
  pub start : begun ≡ bytes 256 (begin (net_of s))
  pub held : Kept (net_of s) places kept
