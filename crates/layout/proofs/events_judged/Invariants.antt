-- What each turn of a loop in `layout::events_judged` keeps.
use Rattle.colours.specs.Colours.{capped}
use Rattle.layout.proofs.Counts.{touches}
use mathlib.Core.Path.{◌≡◌}
use Prim.Native.Nat.{◌*◌, ◌-◌, ◌≤◌}
use Rattle.lists.specs.Lists.{sum, failing, count}
use Rattle.model.specs.Across.{lowest_idle}
use Rattle.model.specs.Numbering.{size}
use Rattle.table.specs.Decoded.{net_of}
use Rattle.table.proofs.InOrder.{Over}
use Rattle.layout.proofs.events_judged.Given as goal

abbrev pub invariant-loop-event : goal.invariant-loop-event
invariant-loop-event l =
    Over l.table l.events l.event-iterator
    × (l.total ≤ 65536 * l.event-iterator.number)
    × (l.total ≡ sum (λ e. capped (size (net_of l.table) e)) l.event-iterator.number)
    × (lowest_idle (net_of l.table) ≡ failing (touches (net_of l.table)) (count l.event-iterator.number (l.events - l.event-iterator.number)))
