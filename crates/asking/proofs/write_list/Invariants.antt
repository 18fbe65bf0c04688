-- Storing what is left is what storing the whole list is.
use mathlib.Core.Path.{◌≡◌}
use lib.ListN.{drop}
use lib.Seq.{sets}
use Rattle.words.specs.Words.{words}
use Rattle.asking.proofs.write_list.Given as goal

abbrev pub invariant-loop-k : goal.invariant-loop-k
invariant-loop-k l = sets l.number-items l.k (drop l.k (words l.part)) ≡ sets l.initial.number-items 0 (words l.part)
