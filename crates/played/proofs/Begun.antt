-- A run played from a marking is played from whatever that marking is known to be, as the table's start.
use mathlib.Core.Path.{◌≡◌, subst}
use mathlib.Core.List.{List}
use Prim.Native.Nat.{ℕ}
use Rattle.std.specs.Prelude.{Result}
use Rattle.model.specs.Net.{Net, Marking}
use Rattle.refusal.specs.declared.Refusal.{Refusal}
use Rattle.played.specs.declared.Ended.{Ended}
use Rattle.played.specs.Played.{Plays}

pub begun_plays : (n : Net) (m p : Marking) → m ≡ p → (r : List ℕ) (answer : Result Ended Refusal) → Plays n m r answer → Plays n p r answer
begun_plays n m p e r answer g = subst (λ (x : Marking). Plays n x r answer) e g
