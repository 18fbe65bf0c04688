-- `decided::first_contact` meets its contract.
use mathlib.Core.Path.{◌∙◌, ap}
use mathlib.Core.List.{List}
use Prim.Native.Nat.{ℕ}
use Rattle.lists.specs.Lists.{mem}
use Rattle.decided.proofs.first_contact.Goals as goal

pub first_meeting-requires : goal.first_meeting-requires
first_meeting-requires c =
    λ b. c.members-taken.ensures b ∙ ap (λ (l : List ℕ). mem b l) c.excusing.ensures.read
