-- `tally::tally` meets its contract.
use Rattle.table.proofs.InOrder.{passed}
use Rattle.tally.proofs.Tallies.{tally_room, tally_next}
use Rattle.tally.proofs.tally.Goals as goal

pub raise-requires : goal.raise-requires
raise-requires c =
    let p = passed _ _ _ _ _ c.loop-event.invariant.0 c.in-Some.ensures.steps in
    tally_room c.args.table.now c.args.post c.args.first _ _ c.requires.first_bound p.inside c.loop-event.invariant.2 _ _ p.at_is c.list_at.ensures

pub loop-event-preserved : goal.loop-event-preserved
loop-event-preserved c =
    let p = passed _ _ _ _ _ c.loop-event.invariant.0 c.in-Some.ensures.steps in
    let t = tally_next c.args.table.now c.args.post c.args.first _ _ c.requires.first_bound p.inside c.loop-event.invariant.2 _ _ p.at_is c.list_at.ensures in
    (p.over, rw c.raise.ensures t.size, rw (p.next_number, c.raise.ensures) t)
