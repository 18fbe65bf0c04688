-- What each turn of a loop in `copies::write_events` keeps.
use mathlib.Core.Path.{◌≡◌}
use mathlib.Core.Bool.{true}
use mathlib.Core.List.{List}
use Prim.Native.Nat.{ℕ}
use lib.ListN.{length}
use Rattle.model.specs.Net.{Marking}
use Rattle.model.specs.Lent.{marking}
use Rattle.table.specs.Decoded.{net_of}
use Rattle.table.proofs.InOrder.{Over}
use Rattle.tally.specs.Having.{Tally}
use Rattle.copies.specs.Writing.{Right, marked_below}
use Rattle.copies.proofs.write_events.Given as goal

abbrev pub invariant-loop-event : goal.invariant-loop-event
invariant-loop-event l =
    Over l.table l.events l.event-iterator
    × (length l.out ≡ length l.initial.out)
    × Tally (net_of l.table) true 1 l.event-iterator.number l.places
    × ((m : Marking) (before : List ℕ)
    → Right (net_of l.table) m (marking l.seen) (marked_below 0) before l.initial.out
    → Right (net_of l.table) m (marking l.seen) (marked_below l.event-iterator.number) before l.out)
