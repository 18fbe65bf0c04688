-- What each turn of a loop in `across::sizes_before` keeps.
use Prim.Native.Nat.{ℕ, ◌<◌}
use mathlib.Core.Path.{◌≡◌}
use lib.ListN.{length, get_or}
use Rattle.lists.specs.Lists.{sum}
use Rattle.model.specs.Numbering.{size}
use Rattle.table.specs.Decoded.{net_of}
use Rattle.table.proofs.InOrder.{Over}
use Rattle.across.proofs.sizes_before.Given as goal

abbrev pub invariant-loop-event : goal.invariant-loop-event
invariant-loop-event l =
    Over l.table l.events l.event-iterator
    × (length l.before ≡ 257)
    × (l.total ≡ sum (size (net_of l.table)) l.event-iterator.number)
    × ((k : ℕ) → k < l.event-iterator.number → get_or l.before k 0 ≡ sum (size (net_of l.table)) k)
