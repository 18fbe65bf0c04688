-- The numbers of the first k steps are written.
use Rattle.lift.proofs.Written.{Written}
use Rattle.lift.proofs.write_lifted.Given as goal

abbrev pub invariant-loop-k : goal.invariant-loop-k
invariant-loop-k l = Written l.later l.initial.numbers l.run l.initial.out l.numbers l.out l.k
