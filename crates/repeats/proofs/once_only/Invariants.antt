-- What each turn of a loop in `repeats::once_only` keeps.
use Rattle.table.specs.Decoded.{net_of}
use Rattle.table.proofs.InOrder.{Over}
use Rattle.repeats.proofs.Walk.{Upto}
use Rattle.repeats.proofs.once_only.Given as goal

abbrev pub invariant-loop-event : goal.invariant-loop-event
invariant-loop-event l = Over l.table l.events l.event-iterator × Upto (net_of l.table) l.event-iterator.number l.once
