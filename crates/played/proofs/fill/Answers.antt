-- `played::fill` meets its contract.
use native.Mathlib.Omega.{arith}
use Rattle.table.proofs.Decoded.{events_are_all}
use Rattle.played.proofs.fill.Goals as goal

pub events-event-items-requires : goal.events-event-items-requires
events-event-items-requires c =
    omega (arith, events_are_all c.args.table.now c.args.n c.requires.0)
