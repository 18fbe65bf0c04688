-- `played::start_held` meets its contract.
use native.Mathlib.Omega.{arith}
use Rattle.table.proofs.Walk.{accepted}
use Rattle.played.proofs.Starts.{start_collected}
use Rattle.played.proofs.start_held.Goals as goal

pub overflow_cast-n : goal.overflow_cast-n
overflow_cast-n c =
    let few = (accepted _ _ c.requires).few in omega arith

pub returns : goal.returns
returns c =
    start_collected _ _ c.requires _ _ _ c.offset.ensures c.marking_at.ensures.reads c.collect.ensures
