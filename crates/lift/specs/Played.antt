-- What the inner functions of the lift need, and the numbers that a run's steps get.
use Rattle.std.specs.Prelude.{ℕ, ◌≤◌, ◌<◌, ◌≡◌, List, [], ◌∷◌, length, get_or, set}
use Rattle.model.specs.Numbering.{size}
use Rattle.model.specs.Across.{most_unfolded}
use Rattle.table.specs.Decoded.{net_of}
use Rattle.layout.specs.Laid.{Sums}
use Rattle.unfolding.specs.Numbers.{Within}
use Rattle.repeats.specs.Repeats.{Used}
use Rattle.firsts.specs.Walks.{Walkable}

-- The number of each step's event: its first number on a first occurrence, and its later one from then on (02, No. 3).
unfoldable pub numbers_for : List ℕ → List ℕ → List ℕ → List ℕ
numbers_for later numbers [] = []
numbers_for later numbers (e ∷ r) = get_or numbers e 0 ∷ numbers_for later (set numbers e (get_or later e 0)) r

-- There is a number for each event, and that of each step's event has two bytes.
pub record TwoBytes (numbers r : List ℕ) : Type 0 where
  pub long : length numbers ≡ 256
  pub few : (k : ℕ) → k < length r → get_or numbers (get_or r k 0) 0 ≤ most_unfolded

-- Each step of a run has a number on a first occurrence and one on a later, and there is room for all of them.
pub record Writing (later numbers r : List ℕ) (room : ℕ) : Type 0 where
  pub room_for : length r ≤ room
  pub known : (k : ℕ) → k < length r → get_or r k 0 < 256
  pub first : TwoBytes numbers r
  pub again : TwoBytes later r

-- A table laid out for a run, and the run is one of it.
pub record Liftable (s : List ℕ) (events : ℕ) (markers users before offsets r : List ℕ) : Type 0 where
  pub within : Within s markers events
  pub used : Used s users
  pub sizes : Sums (size (net_of s)) (net_of s).events before
  pub walkable : Walkable s events offsets r
