-- The bits below j are read.
use Rattle.held.proofs.Words.{Gathered}
use Rattle.held.proofs.word_from.Given as goal

abbrev pub invariant-loop-j : goal.invariant-loop-j
invariant-loop-j l = Gathered l.byte-items l.j l.word
