-- What each turn of a loop in `tally::tally` keeps.
use mathlib.Core.Path.{◌≡◌}
use lib.ListN.{length}
use Rattle.table.specs.Decoded.{net_of}
use Rattle.table.proofs.InOrder.{Over}
use Rattle.tally.specs.Having.{Tally}
use Rattle.tally.proofs.tally.Given as goal

abbrev pub invariant-loop-event : goal.invariant-loop-event
invariant-loop-event l = Over l.table l.upto l.event-iterator × (length l.counts ≡ 256) × Tally (net_of l.table) l.post l.first l.event-iterator.number l.counts
