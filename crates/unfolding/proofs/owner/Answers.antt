-- `unfolding::owner` meets its contract.
use native.Mathlib.Omega.{arith}
use mathlib.Core.Path.{◌≡◌}
use Rattle.model.specs.Numbering.{size}
use Rattle.table.specs.Decoded.{net_of}
use Rattle.table.proofs.InOrder.{passed}
use Rattle.unfolding.proofs.Owners.{whole_size, past_end, next_sum}
use Rattle.unfolding.proofs.owner.Goals as goal

pub returns-then-rest-weight : goal.returns-then-rest-weight
returns-then-rest-weight c =
    let p = passed _ _ _ _ _ c.loop-event.invariant.0 c.in-Some.ensures.steps in
    let w = whole_size _ c.args.markers.now _ c.requires _ _ p.inside p.at_is _ c.list_at.ensures c.colours-weight.ensures in
    rw p.number_is (record { event = p.inside; offset = p.at_is; left = c.loop-event.invariant.1; whole = w; below = c.if-rest-weight.true })

pub loop-event-preserved : goal.loop-event-preserved
loop-event-preserved c =
    let p = passed _ _ _ _ _ c.loop-event.invariant.0 c.in-Some.ensures.steps in
    let w = whole_size _ c.args.markers.now _ c.requires _ _ p.inside p.at_is _ c.list_at.ensures c.colours-weight.ensures in
    (p.over, rw p.next_number (next_sum (size (net_of c.args.table.now)) _ _ _ c.args.j w c.if-rest-weight.false c.loop-event.invariant.1))

pub returns : goal.returns
returns c =
    let z : c.loop-event.event-iterator.number ≡ c.args.events = omega (arith, c.loop-event.invariant.0, c.in-None.ensures.steps) in
    past_end c.args.table.now c.args.markers.now c.args.events c.requires _ c.args.j _ z c.loop-event.invariant.1
