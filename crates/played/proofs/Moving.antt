-- A step on words by the number of an event is that of the event's record.
use Prim.Native.Nat.{ℕ, ◌≤◌, ◌<◌}
use mathlib.Core.Path.{◌≡◌, refl, sym, subst}
use mathlib.Core.List.{List}
use borrow.Author.Tests.{le-ltb}
use Rattle.model.specs.Net.{Marking, fire, stopping}
use Rattle.std.specs.Prelude.{Result, Ok, Err}
use Rattle.table.specs.Walk.{judge_of, offset_of}
use Rattle.table.specs.Decoded.{net_of}
use Rattle.stopping.specs.declared.Cause.TheVariants.{Unknown}
use Rattle.step.specs.Tests.{Recorded, Moves}
use Rattle.step.specs.Steps.{record_net}
use Rattle.stopping.specs.Table.{Cause}
use Rattle.game.proofs.Found.{stopping_found, stopping_unknown, fire_found, listed_found}

module _ (s : List ℕ) (n : ℕ) (j : judge_of s ≡ Ok n) (e : ℕ) where
  pub move_unknown : n ≤ e → (m : Marking) → Moves (stopping (net_of s) m e) (fire (net_of s) m e) (Err Unknown)
  move_unknown h m = let q = stopping_unknown s n j e (le-ltb e n h) m in rw q refl

  module _ (h : e < n) (at : ℕ) (is_at : at ≡ offset_of s e) where
    pub move_listed : Recorded s at
    move_listed = subst (Recorded s) (sym is_at) (listed_found s n j e h)

    pub move_found : (m : Marking) (r : Result (List ℕ) Cause) → Moves (stopping (record_net s at) m 0) (fire (record_net s at) m 0) r → Moves (stopping (net_of s) m e) (fire (net_of s) m e) r
    move_found m r g = rw (stopping_found s n j e h m, fire_found s n j e m) (rw is_at at g)
