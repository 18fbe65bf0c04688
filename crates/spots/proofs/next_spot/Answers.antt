-- `spots::next_spot` meets its contract.
use Rattle.spots.proofs.Spots.{owned_low, unfolds_all, due_next, spot_by, spot_ranges, spot_on, spot_after, spot_end, spot_few}
use mathlib.Core.Path.{refl}
use native.Mathlib.Omega.{arith}
use Rattle.spots.proofs.next_spot.Goals as goal

pub overflow_add-spot : goal.overflow_add-spot
overflow_add-spot c =
    omega (arith, c.requires.1.inside, c.slice_known-4-1.given c.args.spot.range)

pub overflow_add-spot-then-spot-sizes : goal.overflow_add-spot-then-spot-sizes
overflow_add-spot-then-spot-sizes c =
    omega (arith, c.if-spot-sizes.true, c.slice_known-4-1.given c.args.spot.range)

pub moved-requires : goal.moved-requires
moved-requires c =
    spot_few c.requires.1

pub returns-then-spot-sizes : goal.returns-then-spot-sizes
returns-then-spot-sizes c =
    spot_by (spot_on c.requires.1 c.if-spot-sizes.true) c.moved.result c.moved.ensures _ refl

pub next_range-range-requires : goal.next_range-range-requires
next_range-range-requires c =
    (omega (arith, (spot_ranges c.requires.1 c.range_count-ranges.result c.range_count-ranges.ensures).2), (spot_ranges c.requires.1 c.range_count-ranges.result c.range_count-ranges.ensures).1)

pub moved-requires-then-range-ranges : goal.moved-requires-then-range-ranges
moved-requires-then-range-ranges c =
    spot_few c.requires.1

pub returns-then-range-ranges : goal.returns-then-range-ranges
returns-then-range-ranges c =
    spot_by (spot_after c.requires.1 c.if-spot-sizes.false c.range_count-ranges.result c.next_range-range.result (spot_ranges c.requires.1 c.range_count-ranges.result c.range_count-ranges.ensures).0 c.next_range-range.ensures c.if-range-ranges.true) c.moved-then-range-ranges.result c.moved-then-range-ranges.ensures _ refl

pub overflow_add-spot-2 : goal.overflow_add-spot-2
overflow_add-spot-2 c =
    omega (arith, owned_low c.requires.1.opened.owned, c.requires.1.opened.told, c.requires.0.laid.few_events)

pub overflow_add-spot-3 : goal.overflow_add-spot-3
overflow_add-spot-3 c =
    omega (arith, spot_few c.requires.1)

pub spot_from-requires : goal.spot_from-requires
spot_from-requires c =
    due_next c.requires.1.opened (unfolds_all c.requires.0) c.next_owner-found.result c.next_owner-found.ensures _ (spot_end c.requires.1 c.if-spot-sizes.false c.range_count-ranges.result c.next_range-range.result (spot_ranges c.requires.1 c.range_count-ranges.result c.range_count-ranges.ensures).0 c.next_range-range.ensures c.if-range-ranges.false)
