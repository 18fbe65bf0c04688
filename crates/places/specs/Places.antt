-- The place of a first marker among the markers of its condition, and how it is counted along the events.
use Rattle.std.specs.Prelude.{ℕ, ◌+◌, ◌<◌, ◌≡◌, true, cond, List, [], ◌∷◌, ltb, length, get_or, set}
use Rattle.std.proofs.Math.Option.{Option, none, some}
use Rattle.lists.specs.Lists.{index, ◌∈◌}
use Rattle.model.specs.Net.{Net}
use Rattle.model.specs.Runs.{Marker, at_start, by_event}
use Rattle.model.specs.Unfolding.{same_marker, markers}
use Rattle.model.specs.Across.{or_start}
use Rattle.layout.specs.Laid.{Low}
use Rattle.firsts.specs.Firsts.{Slot, first_at}

-- Where the count of a place begins: the start stands before every event (01, Unfolding).
abbrev pub place_begun : Option Marker → ℕ
place_begun none = 0
place_begun (some at_start) = 0
place_begun (some (by_event x)) = 1

-- What event e adds to the place of a first marker: one where it stands before (01, Unfolding).
abbrev pub place_more : Option Marker → ℕ → ℕ
place_more none e = 0
place_more (some at_start) e = 0
place_more (some (by_event x)) e = cond (ltb e x) 1 0

-- Event e counted for each condition of a list.
unfoldable pub placed_all : List Slot → ℕ → List ℕ → List ℕ → List ℕ
placed_all slots e places [] = places
placed_all slots e places (b ∷ l) = placed_all slots e (set places b (get_or places b 0 + place_more (first_at slots b) e)) l

-- Each count has begun, and no event is counted yet.
pub record Begun (slots : List Slot) (places : List ℕ) : Type 0 where
  pub size : length places ≡ 256
  pub each : (b : ℕ) → b < 256 → get_or places b 0 ≡ place_begun (first_at slots b)

-- What is told as first marker of a persistent condition is one of its markers, the start where nothing is told (01, Runs across).
abbrev pub Marking : Net → List Slot → Type 0
Marking n slots = (b : ℕ) → b < 256 → n.persistent b ≡ true → or_start (first_at slots b) ∈ markers n b

-- For each persistent condition the place of its first marker among its markers (01, Unfolding).
pub record Placed (n : Net) (slots : List Slot) (places : List ℕ) : Type 0 where
  pub size : length places ≡ 256
  pub low : Low places
  pub each : (b : ℕ) → b < 256 → n.persistent b ≡ true → get_or places b 0 ≡ index (same_marker (or_start (first_at slots b))) (markers n b)
