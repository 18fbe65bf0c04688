-- What the walk down a list of preconditions needs to take a number apart into markers, and the colour that it leaves.
use Rattle.std.specs.Prelude.{ℕ, ◌+◌, ◌≤◌, ◌<◌, ◌≡◌, List, map, T, length, take}
use Rattle.lists.specs.Lists.{mem, keep}
use Rattle.model.specs.Numbering.{ways}
use Rattle.model.specs.Across.{most_unfolded}
use Rattle.table.specs.Decoded.{net_of}
use Rattle.unfolding.specs.Numbers.{Within, choices_of, told}
use Rattle.events.specs.declared.Colour.{Colour}
use Rattle.events.specs.Colours.{no_colour, push_all}

-- What must hold to take a number apart into markers.
pub record Picking (s ms : List ℕ) (events : ℕ) (l : List ℕ) (weight rest : ℕ) : Type 0 where
  pub within : Within s ms events
  pub inside : (b : ℕ) → T (mem b (keep (net_of s).persistent l)) → b < 256
  pub whole : weight ≡ ways (choices_of s l)
  pub limit : weight ≤ most_unfolded
  pub below : rest < weight

-- There is room for the markers of a list of preconditions behind so many, sixteen in all (01, Table records).
abbrev pub Room : List ℕ → List ℕ → ℕ → List ℕ → Type 0
Room s codes count l = (length codes ≡ 16) × (count + length (choices_of s l) ≤ 16)

-- The colour that the first of a list of numbers tell, each for one marker.
unfoldable pub told_by : List ℕ → ℕ → Colour
unfolding push_all
told_by codes k = push_all no_colour (map told (take k codes))
