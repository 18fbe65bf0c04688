-- Which events mark for others, told from the numbers of users.
use Rattle.std.specs.Prelude.{ℕ, ◌<◌, ◌≡◌, Bool, false, ◌&&◌, cond, List, eqb, ltb, length, get_or}
use Rattle.lists.specs.Lists.{mem}
use Rattle.model.specs.Net.{Net}
use Rattle.model.specs.Across.{marks_for_others}
use Rattle.table.specs.Decoded.{net_of}
use Rattle.table.specs.Tabled.{Tabled}
use Rattle.tally.specs.Having.{Tally}
use Rattle.colours.specs.Colours.{flagged}

-- The numbers of users are those of the table's net, and its flags tell what is persistent (01, Unfolding).
pub record Used (s users : List ℕ) : Type 0 where
  pub limits : Tabled (net_of s)
  pub flags : (b : ℕ) → flagged s b ≡ (net_of s).persistent b
  pub uses : Tally (net_of s) false 0 (net_of s).events users

-- A persistent condition has more users than an event with these preconditions is by itself (02, No. 3).
abbrev pub others_at : List ℕ → List ℕ → List ℕ → ℕ → Bool
others_at s users pre b = flagged s b && ltb (cond (mem b pre) 1 0) (get_or users b 0)

-- A byte for each event of a net, 1 exactly if it marks for others, so that it may occur only once in a lifted run (02, No. 3).
pub record Once (n : Net) (once : List ℕ) : Type 0 where
  pub size : length once ≡ 256
  pub each : (e : ℕ) → e < n.events → eqb (get_or once e 0) 1 ≡ marks_for_others n e
