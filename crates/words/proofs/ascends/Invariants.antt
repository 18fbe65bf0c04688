-- The test on all numbers is the test on those that are left.
use mathlib.Core.Path.{◌≡◌}
use Rattle.words.specs.Words.{words}
use Rattle.words.specs.Numbers.{numbers_left}
use Rattle.words.proofs.Laws.{rises}
use Rattle.words.proofs.ascends.Given as goal

abbrev pub invariant-loop-w : goal.invariant-loop-w
invariant-loop-w l = rises l.n 0 (words l.s) ≡ rises l.n l.least (numbers_left l.w-iterator)
