-- `lift::write_lifted` meets its contract.
use native.Mathlib.Omega.{arith}
use Rattle.lift.proofs.Written.{write_on, write_end}
use Rattle.lift.proofs.write_lifted.Goals as goal

pub bounds-numbers-e : goal.bounds-numbers-e
bounds-numbers-e c =
    omega (arith, c.from-e.ensures, c.loop-k.invariant.writing.known c.loop-k.k c.loop-k-test.true, c.loop-k.invariant.writing.first.long)

pub overflow_cast-out : goal.overflow_cast-out
overflow_cast-out c =
    rw c.from-e.ensures (omega (arith, c.loop-k.invariant.writing.first.few c.loop-k.k c.loop-k-test.true))

pub bounds-later-e : goal.bounds-later-e
bounds-later-e c =
    omega (arith, c.from-e.ensures, c.loop-k.invariant.writing.known c.loop-k.k c.loop-k-test.true, c.loop-k.invariant.writing.again.long)

pub bounds-numbers-e-in-loop-k : goal.bounds-numbers-e-in-loop-k
bounds-numbers-e-in-loop-k c =
    omega (arith, c.from-e.ensures, c.loop-k.invariant.writing.known c.loop-k.k c.loop-k-test.true, c.loop-k.invariant.writing.first.long)

pub loop-k-preserved : goal.loop-k-preserved
loop-k-preserved c =
    rw c.from-e.ensures
    (write_on _ _ _ _ _ _ _ c.loop-k.invariant c.loop-k-test.true)

pub returns : goal.returns
returns c =
    write_end _ _ _ _ _ _ _ c.loop-k.invariant c.loop-k-test.false
