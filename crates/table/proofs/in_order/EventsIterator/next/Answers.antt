-- `Events::next` meets its contract.
use native.Mathlib.Omega.{arith}
use Prim.Native.Nat.{◌<◌}
use Rattle.table.specs.Decoded.{net_of}
use Rattle.table.proofs.InOrder.{walk_next, walk_within}
use Rattle.table.proofs.in_order.EventsIterator.next.Goals as goal

pub overflow_add-self : goal.overflow_add-self
overflow_add-self c =
    let walk = c.args.self.now in
    let inside : walk.number < (net_of walk.table.now).events = omega arith in
    omega (arith, walk_within walk.table.now walk.number walk.at inside walk.at_is)

pub overflow_add-self-2 : goal.overflow_add-self-2
overflow_add-self-2 c =
    let walk = c.args.self.now in
    let inside : walk.number < (net_of walk.table.now).events = omega arith in
    omega (arith, walk_within walk.table.now walk.number walk.at inside walk.at_is)

pub invariant_of-self : goal.invariant_of-self
invariant_of-self c =
    let walk = c.args.self.now in
    let inside : walk.number < (net_of walk.table.now).events = omega arith in
    record {
      at_is = walk_next walk.table.now walk.number walk.at inside walk.at_is c.word.result c.word.ensures;
      before_end = omega arith;
      inside = walk.inside;
    }
