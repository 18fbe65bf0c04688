-- `project::read_back` meets its contract.
use native.Mathlib.Omega.{arith}
use Rattle.project.proofs.Back.{read_start, read_around, read_on, read_end}
use Rattle.project.proofs.read_back.Goals as goal

pub loop-k-init : goal.loop-k-init
loop-k-init c =
    read_start _ _ _ _

pub event_of-requires : goal.event_of-requires
event_of-requires c =
    rw c.from.ensures (read_around _ _ _ c.requires.reading c.loop-k.k c.loop-k-test.true)

pub overflow_cast-out : goal.overflow_cast-out
overflow_cast-out c =
    omega (arith, c.event_of.ensures.event, c.requires.reading.few)

pub bounds-out-k : goal.bounds-out-k
bounds-out-k c =
    omega (arith, c.requires.lifted_in_bounds, c.loop-k.invariant.long)

pub loop-k-preserved : goal.loop-k-preserved
loop-k-preserved c =
    let event = rw c.from.ensures at c.event_of.ensures in
    read_on _ _ _ c.loop-k.k _ _ c.loop-k.invariant (omega (arith, c.requires.lifted_in_bounds, c.loop-k.invariant.long)) _ event

pub shape_of-out : goal.shape_of-out
shape_of-out c =
    omega (arith, c.loop-k.invariant.long)

pub returns : goal.returns
returns c =
    read_end _ _ _ c.loop-k.k _ _ c.loop-k.invariant (omega arith)
