-- The numbers that a call on the unfolding keeps of a table: markers, users, and the sums before each condition.
use Rattle.std.specs.Prelude.{ℕ, ◌≤◌, true, false, List, ◌≡◌, length, get_or, Ok}
use Rattle.lists.specs.Lists.{sum}
use Rattle.model.specs.Numbering.{width, condition_count, event_count}
use Rattle.model.specs.Across.{most_unfolded}
use Rattle.refusal.specs.Answer.{Judged}
use Rattle.table.specs.Decoded.{net_of}
use Rattle.table.specs.Tabled.{Tabled}
use Rattle.tally.specs.Having.{Tally}
use Rattle.colours.specs.Colours.{flagged}
use Rattle.layout.specs.Unfolds.{unfolding_of}

-- Every number is small, so that a product of two fits.
abbrev pub Low : List ℕ → Type 0
Low counts = (b : ℕ) → get_or counts b 0 ≤ 1000

-- Before each of the first c conditions, and after the last, stands the sum of what f gives for those before it.
pub record Sums (f : ℕ → ℕ) (c : ℕ) (bases : List ℕ) : Type 0 where
  pub size : length bases ≡ 257
  pub at : (b : ℕ) → b ≤ c → get_or bases b 0 ≡ sum f b

-- The numbers of markers are those of the table's net, and its flags tell what is persistent (01, Unfolding).
pub record Marked (s markers : List ℕ) : Type 0 where
  pub limits : Tabled (net_of s)
  pub flags : (b : ℕ) → flagged s b ≡ (net_of s).persistent b
  pub marks : Tally (net_of s) true 1 (net_of s).events markers

-- So are the numbers of users (01, Unfolding).
pub record Counted (s markers users : List ℕ) : Type 0 where
  pub marked : Marked s markers
  pub uses : Tally (net_of s) false 0 (net_of s).events users

-- What is known of an unfolded table's numbers (01, Unfolding).
pub record Laid (s markers users bases : List ℕ) : Type 0 where
  pub counted : Counted s markers users
  pub sums : Sums (width (net_of s)) (net_of s).conditions bases
  pub few_events : event_count (net_of s) ≤ most_unfolded
  pub few_conditions : condition_count (net_of s) ≤ most_unfolded

-- What laying out answers: the prefix of every call with the number of the table's events, and the numbers where it is fine.
pub record LaidOut (s : List ℕ) (r : Judged) (markers users bases : List ℕ) : Type 0 where
  pub answer : r ≡ unfolding_of s (Ok (net_of s).events)
  pub laid : (k : ℕ) → r ≡ Ok k → Laid s markers users bases
