-- What a later occurrence of an event picks, condition by condition.
use Rattle.std.specs.Prelude.{ℕ, ◌<◌, ◌≡◌, true, cond, List, [], ◌∷◌, length}
use Rattle.std.proofs.Math.Option.{Option, some}
use Rattle.lists.specs.Lists.{mem}
use Rattle.model.specs.Net.{Net}
use Rattle.model.specs.Runs.{Marker, by_event}
use Rattle.model.specs.Unfolding.{users}
use Rattle.firsts.specs.Firsts.{Slot, first_at}

-- Of a condition with these users: its only user where that marks it, and else the marker that is given (02, No. 3).
abbrev pub own_or : Net → ℕ → List ℕ → Option Marker → Option Marker
own_or n b [] first = first
own_or n b (u ∷ []) first = cond (mem b (n.postconditions u)) (some (by_event u)) first
own_or n b (u ∷ v ∷ l) first = first

-- For each persistent condition the marker that its users pick on a later occurrence: its only user where that marks it, and else its
-- first marker (02, No. 3).
pub record Later (n : Net) (slots later : List Slot) : Type 0 where
  pub size : length later ≡ 256
  pub each : (b : ℕ) → b < 256 → n.persistent b ≡ true → first_at later b ≡ own_or n b (users n b) (first_at slots b)
