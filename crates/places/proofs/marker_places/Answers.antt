-- `places::marker_places` meets its contract.
use borrow.Author.Rules.{rules}
use native.Mathlib.Omega.{arith}
use mathlib.Core.Path.{◌≡◌}
use Rattle.table.proofs.InOrder.{passed, Over}
use Rattle.places.proofs.Counting.{counting_none, counting_room, counting_next, counting_end}
use Rattle.places.proofs.marker_places.Goals as goal

pub loop-event-init : goal.loop-event-init
loop-event-init c =
    let walk : Over c.args.table.now c.args.events c.into_iter-event-iterator.result = search rules in
    let zero : c.into_iter-event-iterator.result.number ≡ 0 = search rules in
    (walk, rw zero (counting_none _ _ _ c.begin_places.ensures))

pub count_event-requires : goal.count_event-requires
count_event-requires c =
    let i = c.loop-event.invariant in
    let p = passed _ _ _ _ _ i.0 c.in-Some.ensures.steps in
    record { room = counting_room _ _ _ _ p.inside i.1 _ p.at_is _ c.list_at-list.ensures; places_len = i.1.size }

pub loop-event-preserved : goal.loop-event-preserved
loop-event-preserved c =
    let i = c.loop-event.invariant in
    let p = passed _ _ _ _ _ i.0 c.in-Some.ensures.steps in
    let next = counting_next _ _ _ _ p.inside i.1 _ p.at_is _ c.list_at-list.ensures in
    (p.over, rw (p.next_number, c.count_event.ensures, p.number_is) next)

pub returns : goal.returns
returns c =
    let i = c.loop-event.invariant in
    let z : c.loop-event.event-iterator.number ≡ c.args.events = omega (arith, i.0, c.in-None.ensures.steps) in
    counting_end _ _ _ _ (omega arith) (omega arith) c.requires.marking i.1
