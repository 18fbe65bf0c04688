-- What each turn of a loop in `played::fill` keeps.
use Prim.Native.Nat.{ℕ, ◌<◌}
use mathlib.Core.Path.{◌≡◌}
use lib.ListN.{get_or}
use Rattle.table.specs.Walk.{offset_of}
use Rattle.table.proofs.InOrder.{Over}
use Rattle.played.proofs.fill.Given as goal

abbrev pub invariant-loop-event : goal.invariant-loop-event
invariant-loop-event l = Over l.table l.n l.event-iterator × ((e : ℕ) → e < l.event-iterator.number → get_or l.offsets e 0 ≡ offset_of l.table e)
