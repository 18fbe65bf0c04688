-- `later::own_markers` meets its contract.
use native.Mathlib.Omega.{arith}
use mathlib.Core.Path.{◌≡◌, ◌∙◌}
use Rattle.table.specs.Decoded.{net_of}
use Rattle.table.proofs.InOrder.{passed}
use Rattle.later.proofs.Upto.{post_inside, own_event, own_done}
use Rattle.later.proofs.own_markers.Goals as goal

pub overflow_cast-event : goal.overflow_cast-event
overflow_cast-event c =
    let p = passed _ _ _ _ _ c.loop-event.invariant.0 c.in-Some.ensures.steps in
    omega (arith, p.number_is, p.inside, c.requires.used.limits.few_events)

pub own_all-later-requires : goal.own_all-later-requires
own_all-later-requires c =
    let p = passed _ _ _ _ _ c.loop-event.invariant.0 c.in-Some.ensures.steps in
    post_inside _ c.args.users.now c.requires.used _ p.inside _ p.at_is _ c.list_at-post.ensures

pub loop-event-preserved : goal.loop-event-preserved
loop-event-preserved c =
    let p = passed _ _ _ _ _ c.loop-event.invariant.0 c.in-Some.ensures.steps in
    let owned = rw p.number_is at c.own_all-later.ensures in
    let used = c.requires.used in
    let next = own_event _ _ used _ p.inside _ p.at_is _ c.list_at-pre.ensures _ c.list_at-post.ensures _ _ _ c.loop-event.invariant.1 owned in
    (p.over, rw p.next_number next)

pub returns : goal.returns
returns c =
    let z : c.loop-event.event-iterator.number ≡ c.args.events = omega (arith, c.loop-event.invariant.0, c.in-None.ensures.steps) in
    own_done (net_of c.args.table.now) _ _ _ (z ∙ c.requires.events_value) c.loop-event.invariant.1
