-- `across::sizes_before` meets its contract.
use native.Mathlib.Omega.{arith}
use Prim.Native.Nat.{ℕ, ◌+◌, ◌<◌}
use mathlib.Core.Path.{◌≡◌, ◌∙◌, ap}
use lib.ListN.{length, length-set}
use Rattle.lists.specs.Lists.{sum}
use Rattle.model.specs.Numbering.{size}
use Rattle.table.specs.Decoded.{net_of}
use Rattle.table.proofs.InOrder.{passed}
use Rattle.tally.proofs.Lists.{set_more}
use Rattle.layout.proofs.Counts.{sum_next}
use Rattle.unfolding.proofs.Owners.{whole_size, before_few}
use Rattle.across.proofs.sizes_before.Goals as goal

pub overflow_add-total : goal.overflow_add-total
overflow_add-total c =
    let p = passed _ _ _ _ _ c.loop-event.invariant.0 c.in-Some.ensures.steps in
    let w = whole_size _ c.args.markers.now _ c.requires.within _ _ p.inside p.at_is _ c.list_at.ensures c.colours-total.ensures in
    omega (arith, before_few c.args.table.now c.args.markers.now c.args.events c.requires.within _ p.inside)

pub loop-event-preserved : goal.loop-event-preserved
loop-event-preserved c =
    let f = size (net_of c.args.table.now) in
    let i = c.loop-event.invariant in
    let p = passed _ _ _ _ _ i.0 c.in-Some.ensures.steps in
    let w = whole_size _ c.args.markers.now _ c.requires.within _ _ p.inside p.at_is _ c.list_at.ensures c.colours-total.ensures in
    let total = ap (λ (x : ℕ). x + c.colours-total.result) i.2 ∙ sum_next f _ _ w in
    let few : c.loop-event.event-iterator.number < length c.loop-event.before = omega (arith, p.inside, c.requires.within.marked.limits.few_events) in
    let written = set_more (λ k. sum f k) _ _ _ few i.2 i.3 in
    (p.over, simp length-set i.1, rw p.next_number total, rw (p.next_number, p.number_is) written)

pub returns : goal.returns
returns c =
    let f = size (net_of c.args.table.now) in
    let i = c.loop-event.invariant in
    let z : c.loop-event.event-iterator.number ≡ c.args.events = omega (arith, i.0, c.in-None.ensures.steps) in
    let all = set_more (λ k. sum f k) c.loop-event.before c.loop-event.event-iterator.number c.loop-event.total (omega arith) i.2 i.3 in
    rw (← z) (record { size = simp length-set i.1; at = λ b h. all b (omega arith) })
