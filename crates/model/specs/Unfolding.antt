-- A net with persistent conditions unfolded to one that has only ordinary ones.
use Rattle.std.specs.Prelude.{Bool, true, false, ◌&&◌, ◌||◌, cond, List, [], ◌∷◌, map, ℕ, eqb, length, get_or}
use Rattle.lists.specs.Lists.{mem, all, empty, places_from, keep, count, spread}
use Rattle.model.specs.Net.{Net}
use Rattle.model.specs.Runs.{Marker, at_start, by_event}

-- Two markers are the same if both are the start or both one event (01, Unfolding).
abbrev pub same_marker : Marker → Marker → Bool
same_marker at_start at_start = true
same_marker at_start (by_event e) = false
same_marker (by_event e) at_start = false
same_marker (by_event e) (by_event f) = eqb e f

-- ---- unfolded conditions

-- An unfolded condition stands for an ordinary condition, or is the copy of a persistent one for a marker and a user (01,
-- Unfolding).
pub data UnfoldedCondition : Type 0 where
  ordinary : ℕ → UnfoldedCondition
  copy : ℕ → Marker → ℕ → UnfoldedCondition

-- The markers of a condition are the start, then the events that have it as postcondition, ascending (01, Unfolding).
unfoldable pub markers : Net → ℕ → List Marker
markers n b = at_start ∷ map by_event (keep (λ e. mem b (n.postconditions e)) (count 0 n.events))

-- The users of a condition are the events that have it as precondition, ascending (01, Unfolding).
unfoldable pub users : Net → ℕ → List ℕ
users n b = keep (λ e. mem b (n.preconditions e)) (count 0 n.events)

-- A persistent condition has a copy for each marker and user, by marker and then by user; an ordinary one stands for itself
-- (01, Unfolding).
unfoldable pub copies : Net → ℕ → List UnfoldedCondition
unfolding markers users
copies n b = cond (n.persistent b) (spread (λ m. map (copy b m) (users n b)) (markers n b)) (ordinary b ∷ [])

-- All unfolded conditions, in the order of their numbers: by condition, then as above (01, Unfolding).
unfoldable pub unfolded_conditions : Net → List UnfoldedCondition
unfolding copies
unfolded_conditions n = spread (copies n) (count 0 n.conditions)

-- ---- unfolded events

-- An unfolded event is an event with a colour: one marker for each of its persistent preconditions, ascending (01, Unfolding).
pub record UnfoldedEvent : Type 0 where
  pub event : ℕ
  pub colour : List Marker

-- The persistent preconditions of an event, ascending as its list is (01, Unfolding).
unfoldable pub reads : Net → ℕ → List ℕ
reads n e = keep n.persistent (n.preconditions e)

-- All ways to take one of each list, the first list's choice changing slowest (01, Unfolding).
abbrev pub choices : List (List Marker) → List (List Marker)
choices [] = [] ∷ []
choices (ms ∷ mss) = spread (λ m. map (m ∷◌) (choices mss)) ms

-- The unfolded events of an event, one for each colour, in the order of the colours (01, Unfolding).
unfoldable pub colours : Net → ℕ → List UnfoldedEvent
unfolding reads markers
colours n e = map (λ c. record { event = e; colour = c }) (choices (map (markers n) (reads n e)))

-- All unfolded events, in the order of their numbers: by event, then by colour (01, Unfolding).
unfoldable pub unfolded_events : Net → List UnfoldedEvent
unfolding colours
unfolded_events n = spread (colours n) (count 0 n.events)

-- ---- what an unfolded event takes and puts, and the start

-- The colour, laid beside the persistent preconditions, picks this marker for this condition (01, Unfolding).
abbrev pub picked : List ℕ → List Marker → ℕ → Marker → Bool
picked [] ms b m = false
picked (x ∷ xs) [] b m = false
picked (x ∷ xs) (y ∷ ys) b m = eqb b x && same_marker m y || picked xs ys b m

-- An unfolded event takes its event's ordinary preconditions, and of each persistent one the copy for the picked marker and
-- for its event as user (01, Unfolding; paper, section 6.1).
unfoldable pub takes : Net → UnfoldedEvent → UnfoldedCondition → Bool
unfolding reads
takes n x (ordinary b) = mem b (n.preconditions x.event)
takes n x (copy b m u) = eqb u x.event && picked (reads n x.event) x.colour b m

-- It puts its event's ordinary postconditions, gives back every copy that it took, and puts the copies of each persistent
-- postcondition that its event marks, for every user (01, Unfolding; paper, section 6.1).
unfoldable pub puts : Net → UnfoldedEvent → UnfoldedCondition → Bool
unfolding takes
puts n x (ordinary b) = mem b (n.postconditions x.event)
puts n x (copy b m u) = takes n x (copy b m u) || same_marker m (by_event x.event) && mem b (n.postconditions x.event)

-- At the unfolded start hold the ordinary conditions of the start, and of each persistent one there the copies marked by the
-- start, for every user (01, Unfolding).
unfoldable pub begins : Net → UnfoldedCondition → Bool
begins n (ordinary b) = mem b n.start
begins n (copy b m u) = same_marker m at_start && mem b n.start

-- What stands for an ordinary condition follows its rule; the copies of persistent ones follow the paper's (02, No. 4).
unfoldable pub follows : Net → UnfoldedCondition → Bool
follows n (ordinary b) = n.old b
follows n (copy b m u) = false

-- ---- the unfolded net

-- The unfolded event behind a number; where there is none, one of event 0 that nobody may ask for (01, Runs across).
unfoldable pub origin : Net → ℕ → UnfoldedEvent
unfolding unfolded_events
origin n j = get_or (unfolded_events n) j (record { event = 0; colour = [] })

-- The unfolded net is a net as any other, with every condition ordinary, so that the same rule plays it (01, Unfolding).
unfoldable pub basic : Net → Net
unfolding unfolded_conditions unfolded_events takes puts begins follows origin
basic n =
    record {
      conditions = length (unfolded_conditions n);
      persistent = λ b. false;
      old = λ b. mem b (places_from 0 (follows n) (unfolded_conditions n));
      events = length (unfolded_events n);
      preconditions = λ j. places_from 0 (takes n (origin n j)) (unfolded_conditions n);
      postconditions = λ j. places_from 0 (puts n (origin n j)) (unfolded_conditions n);
      start = places_from 0 (begins n) (unfolded_conditions n);
    }

-- An event touches nothing once unfolded if it has no precondition and all its postconditions are persistent ones without a
-- user: refusal 13 (01, Unfolding).
unfoldable pub idle : Net → ℕ → Bool
unfolding users
idle n e = empty (n.preconditions e) && all (λ b. n.persistent b && empty (users n b)) (n.postconditions e)
