-- The words so far, with the conditions that are left, are all of the list.
use Rattle.words.specs.Words.{words}
use Rattle.words.specs.Numbers.{numbers_left}
use Rattle.held.proofs.Words.{Collected}
use Rattle.held.proofs.collect.Given as goal

abbrev pub invariant-loop-b : goal.invariant-loop-b
invariant-loop-b l = Collected (words l.list) (numbers_left l.b-iterator) l.held
