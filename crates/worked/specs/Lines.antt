-- What a line of the worked examples says of the calls: their answers on the bytes of a table, and what they leave in lent memory that
-- has just the room for it.
use Rattle.std.specs.Prelude.{◌≡◌, true, false, List, ℕ, length, replicate, Ok, Some}
use Rattle.model.specs.Unfolding.{basic}
use Rattle.refusal.specs.declared.Condition.TheVariants.{Table}
use Rattle.refusal.specs.Answer.{refused_at, refused_by}
use Rattle.table.specs.Decoded.{net_of}
use Rattle.game.specs.Calls.{concession_of, fire_of, fired_of}
use Rattle.replay.specs.Calls.{replay_of, end_of}
use Rattle.exchange.specs.Calls.{exchange_of, exchanged_of}
use Rattle.layout.specs.Unfolds.{unfolding_of}
use Rattle.unfolded_lists.specs.Calls.{unfolded_list_of, unfolded_listed_of}
use Rattle.events.specs.Answers.{origin_of, origin_event}
use Rattle.events.specs.Colours.{no_colour}
use Rattle.event_numbers.specs.Answers.{number_of}
use Rattle.lift.specs.Calls.{lift_of, lifted_of}
use Rattle.ends.specs.Calls.{lift_end_of, lift_ended_of}

-- Lent memory with room for an answer, before it is written.
unfoldable pub lent_for : List ℕ → List ℕ
lent_for answer = replicate (length answer) 9

-- The table has so many unfolded conditions and unfolded events (01, Nets to test with).
abbrev pub Counts : List ℕ → ℕ → ℕ → Type 0
Counts s c e = (unfolding_of s (Ok (basic (net_of s)).conditions) ≡ Ok c) × (unfolding_of s (Ok (basic (net_of s)).events) ≡ Ok e)

-- An unfolded event has these preconditions and postconditions (01, Nets to test with).
abbrev pub Lists : List ℕ → ℕ → List ℕ → List ℕ → Type 0
Lists s j a z =
    (unfolded_list_of s false j (length a) ≡ Ok (length a)) × (unfolded_listed_of s false j (lent_for a) ≡ a)
    × (unfolded_list_of s true j (length z) ≡ Ok (length z)) × (unfolded_listed_of s true j (lent_for z) ≡ z)

-- An unfolded event's number has this event behind it (01, Nets to test with).
abbrev pub Behind : List ℕ → ℕ → ℕ → Type 0
Behind s j e = origin_event (origin_of s j) ≡ e

-- An event without markers has this unfolded number (01, Nets to test with).
abbrev pub Numbered : List ℕ → ℕ → ℕ → Type 0
Numbered s e j = number_of s e no_colour ≡ Ok j

-- An event has concession at a lent marking (01, Nets to test with).
abbrev pub Concedes : List ℕ → List ℕ → ℕ → Type 0
Concedes s m e = concession_of s m e ≡ Ok 0

-- An event is stopped at a lent marking with this number by this condition, and nothing is fired (01, Nets to test with; 02, No. 2).
abbrev pub Stops : List ℕ → List ℕ → ℕ → ℕ → ℕ → Type 0
Stops s m e x b =
    (concession_of s m e ≡ refused_by x b (Some (Table (record { 0 = b })))) × (fire_of s m e ≡ refused_by x b (Some (Table (record { 0 = b }))))
    × (fired_of s m e ≡ m)

-- An event is fired at a lent marking, which is this one afterwards (01, Nets to test with).
abbrev pub Fires : List ℕ → List ℕ → ℕ → List ℕ → Type 0
Fires s m e after = (fire_of s m e ≡ Ok (length after)) × (fired_of s m e ≡ after)

-- A run is replayed to this marking (01, Nets to test with).
abbrev pub Plays : List ℕ → List ℕ → List ℕ → Type 0
Plays s r end = (replay_of s r (length end) ≡ Ok (length end)) × (end_of s r (lent_for end) ≡ end)

-- A run is lifted to this unfolded run, which ends in this unfolded marking (01, Nets to test with).
abbrev pub Lifts : List ℕ → List ℕ → List ℕ → List ℕ → Type 0
Lifts s r w end =
    (lift_of s r (length w) ≡ Ok (length w)) × (lifted_of s r (lent_for w) ≡ w)
    × (lift_end_of s r (length end) ≡ Ok (length end)) × (lift_ended_of s r (lent_for end) ≡ end)

-- A run is not lifted, with this number and place, and nothing is written (01, Nets to test with).
abbrev pub NotLifted : List ℕ → List ℕ → ℕ → ℕ → Type 0
NotLifted s r x k = (lift_of s r (length r) ≡ refused_at x k) × (lifted_of s r (lent_for r) ≡ lent_for r)

-- Steps k and k + 1 of a run are exchanged, which leaves this run (01, Nets to test with).
abbrev pub Exchanges : List ℕ → List ℕ → ℕ → List ℕ → Type 0
Exchanges s r k q = (exchange_of s r k ≡ Ok 2) × (exchanged_of s r k ≡ q)

-- They are not exchanged, with this number and place, and the run is as it was (01, Nets to test with).
abbrev pub NotExchanged : List ℕ → List ℕ → ℕ → ℕ → ℕ → Type 0
NotExchanged s r k x i = (exchange_of s r k ≡ refused_at x i) × (exchanged_of s r k ≡ r)
