-- `elements::count_elements` meets its contract.
use mathlib.Core.Path.{refl}
use native.Mathlib.Omega.{arith}
use Rattle.spots.proofs.Search.{reached_fits, reached_all}
use Rattle.elements.proofs.Answers.{counted_all, counted_few}
use Rattle.elements.proofs.count_elements.Goals as goal

pub overflow_add-arcs : goal.overflow_add-arcs
overflow_add-arcs c =
    omega (arith, reached_fits c.requires.laid c.reach-reached.ensures (omega arith))

pub overflow_mul-result : goal.overflow_mul-result
overflow_mul-result c =
    omega (arith, (counted_few c.args.table.now c.args.markers.now c.args.users.now c.args.bases.now c.args.events c.requires c.condition_count.result c.colours_before-transitions.result _ c.condition_count.ensures c.colours_before-transitions.ensures (reached_all c.requires.laid c.reach-reached.ensures refl)).0)

pub overflow_add-result : goal.overflow_add-result
overflow_add-result c =
    omega (arith, (counted_few c.args.table.now c.args.markers.now c.args.users.now c.args.bases.now c.args.events c.requires c.condition_count.result c.colours_before-transitions.result _ c.condition_count.ensures c.colours_before-transitions.ensures (reached_all c.requires.laid c.reach-reached.ensures refl)).0)

pub overflow_add-result-2 : goal.overflow_add-result-2
overflow_add-result-2 c =
    let k = counted_few c.args.table.now c.args.markers.now c.args.users.now c.args.bases.now c.args.events c.requires c.condition_count.result c.colours_before-transitions.result _ c.condition_count.ensures c.colours_before-transitions.ensures (reached_all c.requires.laid c.reach-reached.ensures refl) in
    omega (arith, k.0, k.1)

pub overflow_add-result-3 : goal.overflow_add-result-3
overflow_add-result-3 c =
    let k = counted_few c.args.table.now c.args.markers.now c.args.users.now c.args.bases.now c.args.events c.requires c.condition_count.result c.colours_before-transitions.result _ c.condition_count.ensures c.colours_before-transitions.ensures (reached_all c.requires.laid c.reach-reached.ensures refl) in
    omega (arith, k.0, k.1, k.2)

pub returns : goal.returns
returns c =
    counted_all c.args.table.now c.args.markers.now c.args.users.now c.args.bases.now c.args.events c.requires c.condition_count.result c.colours_before-transitions.result _ c.condition_count.ensures c.colours_before-transitions.ensures (reached_all c.requires.laid c.reach-reached.ensures refl)
