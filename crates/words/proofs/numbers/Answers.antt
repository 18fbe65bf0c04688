-- There is at most one number for every two bytes of a slice.
use native.Mathlib.Omega.{arith}
use Rattle.words.proofs.Laws.{length_words}
use Rattle.words.proofs.numbers.Goals as goal

pub returns-clause-bound : goal.returns-clause-bound
returns-clause-bound c = omega (arith, length_words c.args.s.now)
