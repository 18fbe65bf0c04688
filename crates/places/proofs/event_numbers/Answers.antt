-- `places::event_numbers` meets its contract.
use native.Mathlib.Omega.{arith}
use Prim.Native.Nat.{ℕ, ◌+◌, ◌<◌}
use mathlib.Core.Path.{◌≡◌}
use lib.ListN.{length, length-set}
use Rattle.lists.specs.Lists.{sum}
use Rattle.model.specs.Numbering.{size}
use Rattle.table.specs.Decoded.{net_of}
use Rattle.table.proofs.InOrder.{passed}
use Rattle.tally.proofs.Lists.{set_more}
use Rattle.places.specs.Numbers.{joined_all}
use Rattle.places.proofs.Joined.{event_fits, joining, event_number}
use Rattle.places.proofs.event_numbers.Goals as goal

pub joined_all-number-requires : goal.joined_all-number-requires
joined_all-number-requires c =
    let p = passed _ _ _ _ _ c.loop-event.invariant.0 c.in-Some.ensures.steps in
    joining _ _ _ _ _ c.requires.numbering _ p.inside _ p.at_is _ c.list_at-list.ensures

pub overflow_add-numbers : goal.overflow_add-numbers
overflow_add-numbers c =
    let g = c.requires.numbering in
    let p = passed _ _ _ _ _ c.loop-event.invariant.0 c.in-Some.ensures.steps in
    let before = rw p.number_is at c.number.ensures in
    let v = event_number _ _ _ _ _ g _ p.inside _ p.at_is _ c.list_at-list.ensures _ _ c.joined_all-number.ensures before in
    omega (arith, v, event_fits _ _ _ _ _ g _ p.inside)

pub loop-event-preserved : goal.loop-event-preserved
loop-event-preserved c =
    let s = c.args.table.now in
    let g = c.requires.numbering in
    let i = c.loop-event.invariant in
    let p = passed _ _ _ _ _ i.0 c.in-Some.ensures.steps in
    let f : ℕ → ℕ = λ k. sum (size (net_of s)) k + joined_all s c.args.markers.now c.args.places.now 0 ((net_of s).preconditions k) in
    let before = rw p.number_is at c.number.ensures in
    let v = event_number _ _ _ _ _ g _ p.inside _ p.at_is _ c.list_at-list.ensures _ _ c.joined_all-number.ensures before in
    let few : c.loop-event.event-iterator.number < length c.loop-event.numbers = omega (arith, p.inside, i.1.long, g.within.marked.limits.few_events) in
    let written = set_more f _ _ _ few v i.1.each in
    (p.over, rw (p.next_number, p.number_is) (record { long = simp length-set i.1.long; each = written }))

pub returns : goal.returns
returns c =
    let i = c.loop-event.invariant in
    let all = c.requires.numbering.within.all in
    let z : c.loop-event.event-iterator.number ≡ (net_of c.args.table.now).events = omega (arith, i.0, c.in-None.ensures.steps) in
    rw (← z) i.1
