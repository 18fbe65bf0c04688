-- `copies::write_events` meets its contract.
use mathlib.Core.Path.{◌≡◌, ◌∙◌}
use mathlib.Core.Bool.{true}
use native.Mathlib.Omega.{arith}
use Rattle.model.specs.Lent.{marking}
use Rattle.table.specs.Decoded.{net_of}
use Rattle.table.proofs.InOrder.{passed}
use Rattle.tally.proofs.Tallies.{tally_room, tally_next}
use Rattle.copies.proofs.Steps.{marked_end, walk_fits, walk_event}
use Rattle.copies.proofs.write_events.Goals as goal

pub write_list-requires : goal.write_list-requires
write_list-requires c =
    let i = c.loop-event.invariant in
    let p = passed _ _ _ _ _ i.0 c.in-Some.ensures.steps in
    walk_fits _ _ _ _ c.requires.roomy _ p.inside _ i.2 _ _ p.at_is c.list_at-list.ensures _ i.1

pub raise-requires : goal.raise-requires
raise-requires c =
    let i = c.loop-event.invariant in
    let p = passed _ _ _ _ _ i.0 c.in-Some.ensures.steps in
    tally_room c.args.table.now true 1 _ _ (omega arith) p.inside i.2 _ _ p.at_is c.list_at-list.ensures

pub loop-event-preserved : goal.loop-event-preserved
loop-event-preserved c =
    let i = c.loop-event.invariant in
    let p = passed _ _ _ _ _ i.0 c.in-Some.ensures.steps in
    let t = tally_next c.args.table.now true 1 _ _ (omega arith) p.inside i.2 _ _ p.at_is c.list_at-list.ensures in
    let told = rw p.number_is at c.byte-holds.ensures in (
      p.over,
      omega (arith, c.write_list.ensures.same, i.1),
      rw (p.next_number, c.raise.ensures) t,
      λ m before r.
          rw p.next_number
          (walk_event _ _ _ _ c.requires.roomy _ p.inside _ i.2 _ _ p.at_is c.list_at-list.ensures m _ _ told before _ _ (i.3 m before r) c.write_list.ensures),
    )

pub returns : goal.returns
returns c =
    let i = c.loop-event.invariant in
    let z : c.loop-event.event-iterator.number ≡ c.args.events = omega (arith, i.0, c.in-None.ensures.steps) in
    λ m before r. marked_end (net_of c.args.table.now) m (marking c.args.seen.now) _ (z ∙ c.requires.events_value) before _ (i.3 m before r)
