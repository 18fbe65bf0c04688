-- The record is known, and storing what is left of its steps is what storing all of them is.
use mathlib.Core.Path.{◌≡◌}
use lib.ListN.{drop}
use lib.Seq.{sets}
use Rattle.runs.specs.Runs.{run_of}
use Rattle.runs.proofs.Judging.{IsRecord}
use Rattle.runs.proofs.read_record.Given as goal

abbrev pub invariant-loop-k : goal.invariant-loop-k
invariant-loop-k l = IsRecord l.kind l.bytes l.steps × (sets l.step-items l.k (drop l.k (run_of l.bytes)) ≡ sets l.initial.step-items 0 (run_of l.bytes))
