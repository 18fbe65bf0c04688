-- `arcs::next_owner` meets its contract.
use native.Mathlib.Omega.{arith}
use Rattle.arcs.proofs.Owners.{record_within, next_event, past_event}
use Rattle.arcs.proofs.next_owner.Goals as goal

pub overflow_add-at : goal.overflow_add-at
overflow_add-at c =
    omega (arith, record_within c.args.table.now c.args.markers.now c.args.events c.requires.within c.args.own.event c.args.own.at c.args.own.rest c.args.own.weight c.requires.owner)

pub overflow_add-at-then-own-events : goal.overflow_add-at-then-own-events
overflow_add-at-then-own-events c =
    omega (arith, record_within c.args.table.now c.args.markers.now c.args.events c.requires.within c.args.own.event c.args.own.at c.args.own.rest c.args.own.weight c.requires.owner, c.word.ensures)

pub returns-then-own-events : goal.returns-then-own-events
returns-then-own-events c =
    next_event c.args.table.now c.args.markers.now c.args.events c.requires.within c.args.own.event c.args.own.at c.args.own.rest c.args.own.weight c.requires.owner c.if-own.false c.if-own-events.true c.word.result c.word.ensures c.list_at.result.now c.list_at.ensures c.colours-weight.result c.colours-weight.ensures

pub returns : goal.returns
returns c =
    past_event c.args.table.now c.args.markers.now c.args.events c.requires.within c.args.own.event c.args.own.at c.args.own.rest c.args.own.weight c.requires.owner c.if-own.false c.if-own-events.false
