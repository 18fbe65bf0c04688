-- What each turn of a loop in `firsts::walk` keeps.
use Rattle.table.specs.Decoded.{net_of}
use Rattle.firsts.proofs.Along.{Along}
use Rattle.firsts.proofs.walk.Given as goal

abbrev pub invariant-loop-k : goal.invariant-loop-k
invariant-loop-k l = Along (net_of l.table) l.run l.k l.repeat l.firsts.slots l.seen
