-- Runs, the state that is kept along a run, and the replay of a run with the step at which it is refused.
use Rattle.std.specs.Prelude.{Bool, true, false, ◌&&◌, ◌||◌, cond, List, [], ◌∷◌, ℕ, suc, eqb}
use Rattle.std.proofs.Math.Option.{Option, none, some}
use Rattle.lists.specs.Lists.{mem}
use Rattle.model.specs.Net.{Net, Marking, begin, can, fire, Stop, stopping}

-- A list of numbers is a run from a marking if each can fire after those before it (01, Playing the table).
unfoldable pub runs : Net → Marking → List ℕ → Bool
runs n m [] = true
runs n m (e ∷ r) = can n m e && runs n (fire n m e) r

-- The marking that a run ends in (01, Playing the table).
unfoldable pub end : Net → Marking → List ℕ → Marking
end n m [] = m
end n m (e ∷ r) = end n (fire n m e) r

-- ---- the state kept along a run

-- A marker of a condition is the start or an event, by its number (01, Unfolding; paper, section 6, writes * for the start).
pub data Marker : Type 0 where
  at_start : Marker
  by_event : ℕ → Marker

-- Along a run three things are kept: what holds, what first marked each persistent condition, and which events have occurred
-- (01, Runs across).
pub record State : Type 0 where
  pub marking : Marking
  pub first : ℕ → Option Marker
  pub seen : ℕ → Bool

-- A persistent condition that is marked gets the marker; another condition gets none (01, Unfolding).
abbrev pub marker : Bool → Bool → Marker → Option Marker
marker p t m = cond (p && t) (some m) none

-- The marker that is there stays, for the earliest one is kept (01, Runs across).
abbrev pub or_else : Option Marker → Option Marker → Option Marker
or_else none y = y
or_else (some m) y = some m

-- Before the first step the start has marked what holds, and no event has occurred (01, Runs across).
unfoldable pub opening : Net → State
unfolding begin
opening n = record { marking = begin n; first = λ b. marker (n.persistent b) (mem b n.start) at_start; seen = λ e. false }

-- One step fires an event, which marks its postconditions and has then occurred (01, Runs across).
unfoldable pub step : Net → State → ℕ → State
unfolding fire
step n s e =
    record {
      marking = fire n s.marking e;
      first = λ b. or_else (s.first b) (marker (n.persistent b) (mem b (n.postconditions e)) (by_event e));
      seen = λ x. eqb x e || s.seen x;
    }

-- The state after a run takes its steps one after the other (01, Playing the table).
unfoldable pub after : Net → State → List ℕ → State
unfolding step
after n s [] = s
after n s (e ∷ r) = after n (step n s e) r

-- ---- replay

-- A replay reaches a state, or is refused: by what stopped it, and at which step (01, Refusal numbers).
pub data Played : Type 0 where
  ends : State → Played
  refused : Stop → ℕ → Played

-- The replay of a list from a state on, its steps counted from k; the first step that is stopped ends it (01, Playing the
-- table and Refusal numbers).
unfoldable pub replay : Net → ℕ → State → List ℕ → Played
unfolding stopping step
replay n k s [] = ends s
replay n k s (e ∷ r) = elim (stopping n s.marking e) [ none ↦ replay n (suc k) (step n s e) r | some v ↦ refused v k ]
