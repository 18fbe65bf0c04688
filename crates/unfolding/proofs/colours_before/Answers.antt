-- `unfolding::colours_before` meets its contract.
use Prim.Native.Nat.{ℕ, ◌+◌}
use native.Mathlib.Omega.{arith}
use mathlib.Core.Path.{◌∙◌, ap}
use Rattle.model.specs.Numbering.{size}
use Rattle.table.specs.Decoded.{net_of}
use Rattle.table.proofs.InOrder.{passed}
use Rattle.layout.proofs.Counts.{sum_next}
use Rattle.unfolding.proofs.Owners.{whole_size, before_few}
use Rattle.unfolding.proofs.colours_before.Goals as goal

pub overflow_add-total : goal.overflow_add-total
overflow_add-total c =
    let p = passed _ _ _ _ _ c.loop-event.invariant.0 c.in-Some.ensures.steps in
    let w = whole_size _ c.args.markers.now _ c.requires.within _ _ p.inside p.at_is _ c.list_at.ensures c.colours.ensures in
    omega (arith, before_few c.args.table.now c.args.markers.now c.args.events c.requires.within _ p.inside)

pub loop-event-preserved : goal.loop-event-preserved
loop-event-preserved c =
    let p = passed _ _ _ _ _ c.loop-event.invariant.0 c.in-Some.ensures.steps in
    let w = whole_size _ c.args.markers.now _ c.requires.within _ _ p.inside p.at_is _ c.list_at.ensures c.colours.ensures in
    let total = ap (λ (x : ℕ). x + c.colours.result) c.loop-event.invariant.1 ∙ sum_next (size (net_of c.args.table.now)) _ _ w in
    (p.over, rw p.next_number total)
