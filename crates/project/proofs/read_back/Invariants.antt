-- The events of the first k numbers are in the output.
use Rattle.project.specs.Walked.{Read}
use Rattle.project.proofs.read_back.Given as goal

abbrev pub invariant-loop-k : goal.invariant-loop-k
invariant-loop-k l = Read l.before l.events l.lifted l.k l.initial.out l.out
