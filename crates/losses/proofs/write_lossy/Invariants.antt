-- What each turn of a loop in `losses::write_lossy` keeps.
use Rattle.table.specs.Decoded.{net_of}
use Rattle.table.proofs.InOrder.{Over}
use Rattle.losses.specs.Losses.{lossy}
use Rattle.losses.proofs.Walk.{Writing}
use Rattle.losses.proofs.write_lossy.Given as goal

abbrev pub invariant-loop-event : goal.invariant-loop-event
invariant-loop-event l = Over l.table l.events l.event-iterator × Writing l.events (lossy (net_of l.table)) l.initial.out l.event-iterator.number l.out
