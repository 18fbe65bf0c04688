-- Nets with persistent conditions and the firing of one event: start reading here.
use Rattle.std.specs.Prelude.{Bool, true, false, not, ◌&&◌, ◌||◌, List, ℕ, ◌<◌, T, ltb}
use Rattle.std.proofs.Math.Option.{Option, none, some}
use Rattle.lists.specs.Lists.{mem, ascending, failing, nothing}

-- A net has so many conditions and events, each numbered from 0, some conditions persistent, some under the old rule, two lists
-- for each event, and the conditions that hold at the start (01, Table records; 02, No. 4; paper, section 5).
pub record Net : Type 0 where
  pub conditions : ℕ
  pub persistent : ℕ → Bool
  pub old : ℕ → Bool
  pub events : ℕ
  pub preconditions : ℕ → List ℕ
  pub postconditions : ℕ → List ℕ
  pub start : List ℕ

-- A net is sound if its lists ascend and name only conditions that it has, as refusal 5 sees to (01, Refusal numbers).
pub record Sound (n : Net) : Type 0 where
  pub pre_in : (e b : ℕ) → e < n.events → T (mem b (n.preconditions e)) → b < n.conditions
  pub post_in : (e b : ℕ) → e < n.events → T (mem b (n.postconditions e)) → b < n.conditions
  pub start_in : (b : ℕ) → T (mem b n.start) → b < n.conditions
  pub pre_ascends_lem : (e : ℕ) → e < n.events → T (ascending (n.preconditions e))
  pub post_ascends_lem : (e : ℕ) → e < n.events → T (ascending (n.postconditions e))
  pub start_ascends : T (ascending n.start)

-- A marking tells of each condition whether it holds (01, Playing the table).
abbrev pub Marking : Type 0
Marking = ℕ → Bool

-- The marking at the start is the table's own (01, Playing the table).
unfoldable pub begin : Net → Marking
begin n = λ b. mem b n.start

-- ---- concession

-- The lowest precondition of e that does not hold, if there is one: refusal 11 (01, Playing the table).
unfoldable pub lacking : Net → Marking → ℕ → Option ℕ
lacking n m e = failing m (n.preconditions e)

-- A holding postcondition is free, so that it does not block e, if it is persistent, or also a precondition of e and not under
-- the old rule (01, Playing the table; 02, No. 4; paper, section 5).
unfoldable pub free : Net → ℕ → ℕ → Bool
free n e b = n.persistent b || mem b (n.preconditions e) && not (n.old b)

-- The lowest postcondition of e that holds and is not free, if there is one: refusal 12, contact (01, Playing the table).
unfoldable pub contact : Net → Marking → ℕ → Option ℕ
unfolding free
contact n m e = failing (λ b. not (m b) || free n e b) (n.postconditions e)

-- An event has concession if it lacks nothing and nothing is in contact (01, Playing the table).
unfoldable pub concession : Net → Marking → ℕ → Bool
unfolding lacking contact
concession n m e = nothing (lacking n m e) && nothing (contact n m e)

-- A number can fire if it is that of an event with concession (01, Playing the table).
unfoldable pub can : Net → Marking → ℕ → Bool
unfolding concession
can n m e = ltb e n.events && concession n m e

-- ---- firing

-- After firing e a condition holds if e puts it, or if it held and is persistent or no precondition of e (01, Playing the
-- table).
unfoldable pub fire : Net → Marking → ℕ → Marking
fire n m e = λ b. mem b (n.postconditions e) || m b && (n.persistent b || not (mem b (n.preconditions e)))

-- ---- what stops a firing

-- A firing is stopped because there is no such event, because a precondition is lacking, or by contact on a condition (01,
-- Refusal numbers).
pub data Stop : Type 0 where
  unknown : Stop
  lacks : ℕ → Stop
  meets : ℕ → Stop

-- Each stop has its refusal number (01, Refusal numbers).
abbrev pub stop_number : Stop → ℕ
stop_number unknown = 10
stop_number (lacks b) = 11
stop_number (meets b) = 12

-- The condition at which a firing is stopped; there is none where there is no such event (02, No. 2).
abbrev pub stop_condition : Stop → Option ℕ
stop_condition unknown = none
stop_condition (lacks b) = some b
stop_condition (meets b) = some b

-- The place of a firing that is no step of a run: that condition, and 0 where there is none (02, No. 2).
abbrev pub stop_place : Stop → ℕ
stop_place unknown = 0
stop_place (lacks b) = b
stop_place (meets b) = b

-- An unknown event comes before a lacking precondition, and that before contact (01, Refusal numbers).
abbrev pub first_stop : Bool → Option ℕ → Option ℕ → Option Stop
first_stop false a z = some unknown
first_stop true (some b) z = some (lacks b)
first_stop true none (some b) = some (meets b)
first_stop true none none = none

-- What stops the firing of a number at a marking, if anything does (01, Refusal numbers).
unfoldable pub stopping : Net → Marking → ℕ → Option Stop
unfolding lacking contact
stopping n m e = first_stop (ltb e n.events) (lacking n m e) (contact n m e)
