-- How an event is set as the marker of the conditions that it alone uses, by the numbers of users.
use Rattle.std.specs.Prelude.{ℕ, Bool, ◌&&◌, cond, List, [], ◌∷◌, eqb, get_or, set, Some}
use Rattle.lists.specs.Lists.{mem}
use Rattle.refusal.specs.declared.Marker.TheVariants.{ByEvent}
use Rattle.colours.specs.Colours.{flagged}
use Rattle.firsts.specs.Firsts.{Slot}

-- A condition is persistent, and an event with these preconditions is its only user (02, No. 3).
abbrev pub only_at : List ℕ → List ℕ → List ℕ → ℕ → Bool
only_at s users pre b = flagged s b && eqb (get_or users b 0) 1 && mem b pre

-- Event e, which has these preconditions, is set as marker of one condition where it is the only user (02, No. 3).
unfoldable pub own_one : List ℕ → List ℕ → List ℕ → ℕ → List Slot → ℕ → List Slot
own_one s users pre e slots b = cond (only_at s users pre b) (set slots b (Some (ByEvent (record { 0 = e })))) slots

-- It is set so for each condition of a list, one after the other (02, No. 3).
unfoldable pub own_all : List ℕ → List ℕ → List ℕ → ℕ → List Slot → List ℕ → List Slot
unfolding own_one
own_all s users pre e slots [] = slots
own_all s users pre e slots (b ∷ l) = own_all s users pre e (own_one s users pre e slots b) l
