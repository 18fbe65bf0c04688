-- `next` gives the first number and leaves the others.
use native.Mathlib.Omega.{arith}
use mathlib.Core.Path.{ap}
use lib.ListN.{length}
use Rattle.words.proofs.Laws.{words_first, words_none}
use Rattle.words.proofs.iter.NumbersIterator.next.Goals as goal

pub returns-in_default-clause-steps : goal.returns-in_default-clause-steps
returns-in_default-clause-steps c =
    let none = words_none c.args.self.now.bytes.now (omega arith) in
    (none, none)

pub returns-clause-steps : goal.returns-clause-steps
returns-clause-steps c =
    let first = words_first c.args.self.now.bytes.now c.in-len2-up.len_at_least in
    rw c.from_le_bytes.ensures first

pub returns-clause-goes : goal.returns-clause-goes
returns-clause-goes c =
    let first = words_first c.args.self.now.bytes.now c.in-len2-up.len_at_least in
    let fewer = ap length first in
    record { on = λ f. (tt, tt, omega (arith, fewer)); keeps = tt; rests = λ f. tt }
