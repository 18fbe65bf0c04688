-- What stops an unfolded event, told from the table's marking and the events that have occurred, with no unfolded marking: as conditions
-- of the table, then as unfolded ones.
use Rattle.std.specs.Prelude.{Bool, true, not, ◌&&◌, ◌||◌, cond, ℕ, eqb}
use Rattle.std.proofs.Math.Option.{Option, none, some}
use Rattle.lists.specs.Lists.{mem, all, failing}
use Rattle.model.specs.Net.{Net, Marking, free, Stop, unknown, lacks, meets, first_stop}
use Rattle.model.specs.Runs.{Marker, at_start, by_event}
use Rattle.model.specs.Unfolding.{same_marker, UnfoldedCondition, ordinary, copy, users}
use Rattle.model.specs.Numbering.{condition_number}

-- A colour, laid out by condition: the marker that it picks for each persistent precondition (01, Unfolding).
abbrev pub Picks : Type 0
Picks = ℕ → Marker

-- Which events have occurred (01, Runs across).
abbrev pub Seen : Type 0
Seen = ℕ → Bool

-- A marker of a condition has marked it: the start if the condition is in it, an event if it has occurred (01, Runs across).
abbrev pub has_marked : Net → Seen → Marker → ℕ → Bool
has_marked n seen at_start b = mem b n.start
has_marked n seen (by_event e) b = seen e

-- What a precondition must pass: an ordinary one holds, and the picked marker of a persistent one has marked it (01, Unfolding).
abbrev pub ready : Net → Marking → Seen → Picks → ℕ → Bool
ready n m seen pick b = cond (n.persistent b) (has_marked n seen (pick b) b) (m b)

-- The copy of b that e marks for a user is given back: the user is e, and e is the picked marker (01, Unfolding).
abbrev pub given_back : Picks → ℕ → ℕ → ℕ → Bool
given_back pick e b u = eqb u e && same_marker (by_event e) (pick b)

-- What a postcondition of e must pass: an ordinary one does not hold or is free; of a persistent one, where e has occurred before,
-- each copy that e marks is given back (01, Unfolding).
abbrev pub clear : Net → Marking → Seen → Picks → ℕ → ℕ → Bool
clear n m seen pick e b =
    cond (n.persistent b) (not (seen e) || all (given_back pick e b) (users n b)) (not (m b) || free n e b)

-- What stops the unfolded event of e with these picks, as conditions of the table: the first precondition that fails, else the first
-- postcondition (01, Refusal numbers).
unfoldable pub stopped_by : Net → Marking → Seen → Picks → ℕ → Option Stop
stopped_by n m seen pick e = first_stop true (failing (ready n m seen pick) (n.preconditions e)) (failing (clear n m seen pick e) (n.postconditions e))

-- ---- the same as unfolded conditions

-- The unfolded condition that an unfolded event of e takes for its precondition b: a persistent one's copy for the picked marker and e as
-- user (01, Unfolding; 02, No. 2).
abbrev pub lacked_condition : Net → Picks → ℕ → ℕ → UnfoldedCondition
lacked_condition n pick e b = cond (n.persistent b) (copy b (pick b) e) (ordinary b)

-- A user that was found, and 0 where none was (01, Unfolding).
abbrev pub met_user : Option ℕ → ℕ
met_user none = 0
met_user (some u) = u

-- The lowest unfolded condition that an unfolded event of e puts for its postcondition b and does not take: of a persistent one the copy
-- marked by e for the first user whose copy is not given back (01, Unfolding; 02, No. 2).
abbrev pub met_condition : Net → Picks → ℕ → ℕ → UnfoldedCondition
met_condition n pick e b = cond (n.persistent b) (copy b (by_event e) (met_user (failing (given_back pick e b) (users n b)))) (ordinary b)

-- What stops an unfolded event of e, by the numbers of unfolded conditions in place of the table's (01, Unfolding; 02, No. 2).
abbrev pub unfolded_stop : Net → Picks → ℕ → Option Stop → Option Stop
unfolded_stop n pick e none = none
unfolded_stop n pick e (some unknown) = some unknown
unfolded_stop n pick e (some (lacks b)) = some (lacks (condition_number n (lacked_condition n pick e b)))
unfolded_stop n pick e (some (meets b)) = some (meets (condition_number n (met_condition n pick e b)))
