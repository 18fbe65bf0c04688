-- The numbers of unfolded events and conditions: their places in the two lists, and the sums and products that count them.
use Rattle.std.specs.Prelude.{Bool, true, false, ◌&&◌, cond, List, [], ◌∷◌, map, ℕ, ◌+◌, ◌*◌, ◌/◌, ◌%◌, eqb, length, get_or}
use Rattle.lists.specs.Lists.{index, sum}
use Rattle.model.specs.Net.{Net}
use Rattle.model.specs.Runs.{Marker, at_start}
use Rattle.model.specs.Unfolding.{same_marker, UnfoldedCondition, ordinary, copy, markers, users, unfolded_conditions, UnfoldedEvent, reads, unfolded_events}

-- ---- numbers: places in the lists

-- Two colours are the same if they pick the same markers in turn (01, Unfolding).
abbrev pub same_colour : List Marker → List Marker → Bool
same_colour [] [] = true
same_colour [] (k ∷ d) = false
same_colour (m ∷ c) [] = false
same_colour (m ∷ c) (k ∷ d) = same_marker m k && same_colour c d

-- Two unfolded events are the same if their events and their colours are (01, Unfolding).
abbrev pub same_event : UnfoldedEvent → UnfoldedEvent → Bool
same_event x y = eqb x.event y.event && same_colour x.colour y.colour

-- Two unfolded conditions are the same if they stand for one ordinary condition, or are the copy for one marker and user (01,
-- Unfolding).
abbrev pub same_condition : UnfoldedCondition → UnfoldedCondition → Bool
same_condition (ordinary b) (ordinary d) = eqb b d
same_condition (ordinary b) (copy d k v) = false
same_condition (copy b m u) (ordinary d) = false
same_condition (copy b m u) (copy d k v) = eqb b d && (same_marker m k && eqb u v)

-- The number of an unfolded event is its place among all of them; one that is not there gets their count, which numbers none
-- (01, Unfolding).
unfoldable pub number : Net → UnfoldedEvent → ℕ
unfolding unfolded_events
number n x = index (same_event x) (unfolded_events n)

-- The number of an unfolded condition is its place among all of them, likewise (01, Unfolding).
unfoldable pub condition_number : Net → UnfoldedCondition → ℕ
unfolding unfolded_conditions
condition_number n p = index (same_condition p) (unfolded_conditions n)

-- ---- the same without the lists, in whole numbers

-- How many ways there are to take one of each list: their lengths multiplied (01, Unfolding).
abbrev pub ways : List (List Marker) → ℕ
ways [] = 1
ways (ms ∷ mss) = length ms * ways mss

-- The place of a colour among those of its event, the first marker counting slowest (01, Unfolding).
abbrev pub radix : List (List Marker) → List Marker → ℕ
radix [] c = 0
radix (ms ∷ mss) [] = 0
radix (ms ∷ mss) (m ∷ c) = index (same_marker m) ms * ways mss + radix mss c

-- The colour at a place among those of its event (01, Runs across).
abbrev pub digits : List (List Marker) → ℕ → List Marker
digits [] r = []
digits (ms ∷ mss) r = get_or ms (r / ways mss) at_start ∷ digits mss (r % ways mss)

-- The number of colours of an event: a product over its persistent preconditions (01, Unfolding).
unfoldable pub size : Net → ℕ → ℕ
unfolding reads markers
size n e = ways (map (markers n) (reads n e))

-- The number of unfolded conditions of a condition: markers times users, or 1 (01, Unfolding).
unfoldable pub width : Net → ℕ → ℕ
unfolding markers users
width n b = cond (n.persistent b) (length (markers n b) * length (users n b)) 1

-- How many unfolded conditions there are: a sum over the conditions (01, Unfolding).
unfoldable pub condition_count : Net → ℕ
unfolding width
condition_count n = sum (width n) n.conditions

-- How many unfolded events there are: a sum over the events (01, Unfolding).
unfoldable pub event_count : Net → ℕ
unfolding size
event_count n = sum (size n) n.events

-- The number of an unfolded event, counted: the colours of all events before its own, then its colour's place (01, Unfolding).
unfoldable pub counted : Net → UnfoldedEvent → ℕ
unfolding size reads markers
counted n x = sum (size n) x.event + radix (map (markers n) (reads n x.event)) x.colour

-- The number of an unfolded condition, counted: those of all conditions before its own, then its marker's and user's place
-- (01, Unfolding).
unfoldable pub counted_condition : Net → UnfoldedCondition → ℕ
unfolding width markers users
counted_condition n (ordinary b) = sum (width n) b
counted_condition n (copy b m u) = sum (width n) b + (index (same_marker m) (markers n b) * length (users n b) + index (eqb u) (users n b))
