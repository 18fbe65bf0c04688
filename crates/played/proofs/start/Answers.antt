-- `played::start` meets its contract.
use native.Mathlib.Omega.{arith}
use mathlib.Core.Path.{◌∙◌}
use Rattle.table.proofs.Walk.{accepted}
use Rattle.played.proofs.Starts.{start_put}
use Rattle.played.proofs.start.Goals as goal

pub overflow_cast-n : goal.overflow_cast-n
overflow_cast-n c =
    let few = (accepted _ _ c.requires.0).few in omega arith

pub returns : goal.returns
returns c =
    c.set_all.ensures ∙ start_put _ _ c.requires.0 _ _ _ c.offset.ensures c.marking_at-list.ensures.reads c.requires.1
