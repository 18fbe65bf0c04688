-- `tally::nth` meets its contract.
use mathlib.Core.Path.{◌∙◌, sym}
use native.Mathlib.Omega.{arith}
use Rattle.table.specs.Decoded.{net_of}
use Rattle.table.proofs.InOrder.{passed}
use Rattle.tally.proofs.Events.{walk_has}
use Rattle.tally.proofs.Tallies.{nth_here, nth_later, nth_past}
use Rattle.tally.proofs.nth.Goals as goal

pub returns-then-left-eq0 : goal.returns-then-left-eq0
returns-then-left-eq0 c =
    let p = passed _ _ _ _ _ c.loop-event.invariant.0 c.in-Some.ensures.steps in
    let has = walk_has c.args.table.now _ _ p.inside p.at_is c.args.post c.args.b _ c.list_at.ensures c.has.ensures in
    let here = nth_here (net_of c.args.table.now) c.args.post c.args.b _ _ p.before (has ∙ c.if-has.true) _ c.if-left-eq0.true in
    p.number_is ∙ sym here ∙ c.loop-event.invariant.2

pub loop-event-preserved-then-has : goal.loop-event-preserved-then-has
loop-event-preserved-then-has c =
    let p = passed _ _ _ _ _ c.loop-event.invariant.0 c.in-Some.ensures.steps in
    let has = walk_has c.args.table.now _ _ p.inside p.at_is c.args.post c.args.b _ c.list_at.ensures c.has.ensures in
    let later = nth_later (net_of c.args.table.now) c.args.post c.args.b _ _ p.before (has ∙ c.if-has.true) _ c.if-left-eq0.false in
    (p.over, omega arith, rw p.next_number (sym later ∙ c.loop-event.invariant.2))

pub loop-event-preserved : goal.loop-event-preserved
loop-event-preserved c =
    let p = passed _ _ _ _ _ c.loop-event.invariant.0 c.in-Some.ensures.steps in
    let has = walk_has c.args.table.now _ _ p.inside p.at_is c.args.post c.args.b _ c.list_at.ensures c.has.ensures in
    let past = nth_past (net_of c.args.table.now) c.args.post c.args.b _ _ p.before (has ∙ c.if-has.false) _ in
    (p.over, omega arith, rw p.next_number (sym past ∙ c.loop-event.invariant.2))
