-- The first k steps were played, and what holds after them is held.
use Rattle.table.specs.Decoded.{net_of}
use Rattle.held.specs.Held.{held_in}
use Rattle.played.proofs.Playing.{Going}
use Rattle.played.proofs.play.Given as goal

abbrev pub invariant-loop-k : goal.invariant-loop-k
invariant-loop-k l = Going (net_of l.table) (held_in l.initial.held) l.run l.k l.held
