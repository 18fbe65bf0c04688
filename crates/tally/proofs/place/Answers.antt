-- `tally::place` meets its contract.
use mathlib.Core.Path.{◌≡◌, ◌∙◌}
use native.Mathlib.Omega.{arith}
use Rattle.table.specs.Decoded.{net_of}
use Rattle.table.proofs.InOrder.{passed}
use Rattle.tally.proofs.Events.{walk_has}
use Rattle.tally.proofs.Tallies.{place_here, place_later, place_past}
use Rattle.tally.proofs.place.Goals as goal

pub returns-then-e-event : goal.returns-then-e-event
returns-then-e-event c =
    let p = passed _ _ _ _ _ c.loop-event.invariant.0 c.in-Some.ensures.steps in
    let has = walk_has c.args.table.now _ _ p.inside p.at_is c.args.post c.args.b _ c.list_at.ensures c.has.ensures in
    let here = place_here (net_of c.args.table.now) c.args.post c.args.b _ _ p.before (has ∙ c.if-has.true) _ (c.if-e-event.true ∙ p.number_is) in
    omega (arith, here, c.loop-event.invariant.2)

pub loop-event-preserved-then-has : goal.loop-event-preserved-then-has
loop-event-preserved-then-has c =
    let p = passed _ _ _ _ _ c.loop-event.invariant.0 c.in-Some.ensures.steps in
    let has = walk_has c.args.table.now _ _ p.inside p.at_is c.args.post c.args.b _ c.list_at.ensures c.has.ensures in
    let other : c.args.e ≡ c.loop-event.event-iterator.number → ⊥ = λ e. c.if-e-event.false (omega arith) in
    let later = place_later (net_of c.args.table.now) c.args.post c.args.b _ _ p.before (has ∙ c.if-has.true) _ other in
    (p.over, omega arith, rw p.next_number (omega (arith, later, c.loop-event.invariant.2)))

pub loop-event-preserved : goal.loop-event-preserved
loop-event-preserved c =
    let p = passed _ _ _ _ _ c.loop-event.invariant.0 c.in-Some.ensures.steps in
    let has = walk_has c.args.table.now _ _ p.inside p.at_is c.args.post c.args.b _ c.list_at.ensures c.has.ensures in
    let past = place_past (net_of c.args.table.now) c.args.post c.args.b _ _ p.before (has ∙ c.if-has.false) c.args.e in
    (p.over, omega arith, rw p.next_number (omega (arith, past, c.loop-event.invariant.2)))
