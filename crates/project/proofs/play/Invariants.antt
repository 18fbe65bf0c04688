-- The first k steps are a run, and the bytes are as it leaves them.
use Rattle.table.specs.Decoded.{net_of}
use Rattle.project.specs.Walked.{Walked}
use Rattle.project.proofs.play.Given as goal

abbrev pub invariant-loop-k : goal.invariant-loop-k
invariant-loop-k l = Walked (net_of l.table) l.lifted l.k l.state l.seen l.places l.kept
