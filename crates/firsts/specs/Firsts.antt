-- First markers of the code beside the model's, and how they are set.
use Rattle.std.specs.Prelude.{ℕ, ◌<◌, cond, List, [], ◌∷◌, T, get_or, set, replicate, None, Some, Option as Perhaps}
use Rattle.std.specs.Option.{option_or}
use Rattle.std.proofs.Math.Option.{Option, none, some}
use Rattle.lists.specs.Lists.{mem}
use Rattle.model.specs.Runs.{Marker}
use Rattle.refusal.specs.declared.Marker as declared
use Rattle.colours.specs.Colours.{flagged}
use Rattle.unfolding.specs.Markers.{meant}

-- The slot of one condition: what first marked it, if anything did.
abbrev pub Slot : Type 0
Slot = Perhaps declared.Marker

-- What first marked a condition, in the model (01, Runs across).
abbrev pub first_of : Slot → Option Marker
first_of None = none
first_of (Some m) = some (meant m)

-- The slot of condition b, not marked past the last.
abbrev pub slot_at : List Slot → ℕ → Slot
slot_at slots b = get_or slots b None

-- The first marker of condition b (01, Runs across).
abbrev pub first_at : List Slot → ℕ → Option Marker
first_at slots b = first_of (slot_at slots b)

-- No condition is marked.
unfoldable pub no_slots : List Slot
no_slots = replicate 256 None

-- Each condition of a list has a slot.
abbrev pub Inside : List ℕ → Type 0
Inside l = (b : ℕ) → T (mem b l) → b < 256

-- One condition is marked, unless it is ordinary or marked already (01, Unfolding and Runs across).
unfoldable pub mark_one : List ℕ → List Slot → declared.Marker → ℕ → List Slot
mark_one s slots m b = cond (flagged s b) (set slots b (option_or (slot_at slots b) (Some m))) slots

-- Each condition of a list is marked, one after the other (01, Runs across).
unfoldable pub mark_all : List ℕ → List Slot → declared.Marker → List ℕ → List Slot
mark_all s slots m [] = slots
mark_all s slots m (b ∷ l) = mark_all s (mark_one s slots m b) m l

-- The step of the first repeat, in the model (01, Refusal numbers).
abbrev pub repeat_of : Perhaps ℕ → Option ℕ
repeat_of None = none
repeat_of (Some k) = some k
