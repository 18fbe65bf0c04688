-- The tests as they are made on a table: by its flags, the numbers of putters and the lists of an event.
use Rattle.std.specs.Prelude.{ℕ, ◌≡◌, Bool, true, not, ◌&&◌, ◌||◌, List, eqb, get_or}
use Rattle.lists.specs.Lists.{mem, all, any}
use Rattle.table.specs.Decoded.{net_of}
use Rattle.table.specs.Tabled.{Tabled}
use Rattle.tally.specs.Having.{Tally}
use Rattle.colours.specs.Colours.{flagged}
use Rattle.repeats.specs.Repeats.{Once}

-- A condition is persistent, or stands in a list.
abbrev pub kept_at : List ℕ → List ℕ → ℕ → Bool
kept_at s l b = flagged s b || mem b l

-- The ordinary conditions of two lists are the same.
abbrev pub steady_at : List ℕ → List ℕ → List ℕ → Bool
steady_at s pre post = all (kept_at s post) pre && all (kept_at s pre) post

-- A condition is ordinary, and its number of putters is 0.
abbrev pub spent_at : List ℕ → List ℕ → ℕ → Bool
spent_at s puts b = not (flagged s b) && eqb (get_or puts b 0) 0

-- An event with these lists may come again and change what holds.
abbrev pub recurs_at : List ℕ → List ℕ → List ℕ → List ℕ → Bool
recurs_at s puts pre post = not (steady_at s pre post) && not (any (spent_at s puts) pre)

-- What is known of a table before its lossy events are written: its flags tell what is persistent, which events mark for others, and how
-- many events put each condition.
pub record Known (s : List ℕ) (events : ℕ) (once puts : List ℕ) : Type 0 where
  pub limits : Tabled (net_of s)
  pub flags : (b : ℕ) → flagged s b ≡ (net_of s).persistent b
  pub counted : events ≡ (net_of s).events
  pub marks : Once (net_of s) once
  pub putting : Tally (net_of s) true 0 events puts
