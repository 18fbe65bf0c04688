-- Places of markers put together to numbers of unfolded events.
use Rattle.std.specs.Prelude.{ℕ, ◌+◌, ◌*◌, ◌≤◌, ◌<◌, ◌≡◌, cond, List, [], ◌∷◌, map, T, length, get_or}
use Rattle.lists.specs.Lists.{mem, sum}
use Rattle.model.specs.Net.{Net}
use Rattle.model.specs.Unfolding.{markers, reads}
use Rattle.model.specs.Numbering.{radix, size}
use Rattle.model.specs.Across.{most_unfolded, or_start}
use Rattle.table.specs.Decoded.{net_of}
use Rattle.colours.specs.Colours.{flagged}
use Rattle.layout.specs.Laid.{Low, Marked, Sums}
use Rattle.unfolding.specs.Numbers.{Within}
use Rattle.firsts.specs.Firsts.{Slot, first_at}

-- A number with the place of condition b's marker behind it, where b is persistent (01, Unfolding).
abbrev pub joined : List ℕ → List ℕ → List ℕ → ℕ → ℕ → ℕ
joined s markers places number b = cond (flagged s b) (number * get_or markers b 0 + get_or places b 0) number

-- The places of all persistent conditions of a list put together, the first counting slowest (01, Unfolding).
unfoldable pub joined_all : List ℕ → List ℕ → List ℕ → ℕ → List ℕ → ℕ
joined_all s markers places number [] = number
joined_all s markers places number (b ∷ l) = joined_all s markers places (joined s markers places number b) l

-- What must hold to put the places of a list together: the number stays within the limit.
pub record Joining (s markers places l : List ℕ) : Type 0 where
  pub marked : Marked s markers
  pub low : Low places
  pub inside : (b : ℕ) → T (mem b l) → b < 256
  pub limit : joined_all s markers places 0 l ≤ most_unfolded

-- The places of each event's list come to a number below that of its colours (01, Unfolding).
abbrev pub Small : List ℕ → List ℕ → List ℕ → Type 0
Small s markers places = (e : ℕ) → e < (net_of s).events → joined_all s markers places 0 ((net_of s).preconditions e) < size (net_of s) e

-- What must hold to number the unfolded event of each event.
pub record Numbering (s markers : List ℕ) (events : ℕ) (before places : List ℕ) : Type 0 where
  pub within : Within s markers events
  pub sums : Sums (size (net_of s)) (net_of s).events before
  pub low : Low places
  pub small : Small s markers places

-- For each of the first k events the number of its unfolded event by the places (01, Unfolding).
pub record Numbered (s markers places : List ℕ) (k : ℕ) (numbers : List ℕ) : Type 0 where
  pub long : length numbers ≡ 256
  pub each : (e : ℕ) → e < k → get_or numbers e 0 ≡ sum (size (net_of s)) e + joined_all s markers places 0 ((net_of s).preconditions e)

-- For each event the number of the unfolded event that the first markers pick (01, Runs across).
pub record Settled (n : Net) (slots : List Slot) (numbers : List ℕ) : Type 0 where
  pub long : length numbers ≡ 256
  pub each : (e : ℕ) → e < n.events
      → get_or numbers e 0 ≡ sum (size n) e + radix (map (markers n) (reads n e)) (map (λ b. or_start (first_at slots b)) (reads n e))
  pub few : (e : ℕ) → e < n.events → get_or numbers e 0 ≤ most_unfolded
