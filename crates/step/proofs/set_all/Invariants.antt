-- Setting the bytes of the conditions that are left is what setting those of all is.
use mathlib.Core.Path.{◌≡◌}
use Rattle.words.specs.Words.{words}
use Rattle.words.specs.Numbers.{numbers_left}
use Rattle.step.specs.Steps.{set_all}
use Rattle.step.proofs.set_all.Given as goal

abbrev pub invariant-loop-b : goal.invariant-loop-b
invariant-loop-b l = set_all l.kept l.value (words l.list) l.initial.state ≡ set_all l.kept l.value (numbers_left l.b-iterator) l.state
