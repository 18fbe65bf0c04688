-- `spots::reach` meets its contract.
use Rattle.unfolding.proofs.Owners.{within_laid}
use Rattle.spots.proofs.Spots.{due_owned, due_lent, due_by, due_first, owner_at}
use Rattle.spots.proofs.Search.{reaches_none, due_low, sum_low, reaches_here, reaches_on}
use native.Mathlib.Omega.{arith}
use Rattle.spots.proofs.reach.Goals as goal

pub loop-found-init : goal.loop-found-init
loop-found-init c =
    (due_first c.args.events c.requires.0 c.requires.1 c.owner-found.result c.owner-found.ensures, omega arith)

pub returns-in_default : goal.returns-in_default
returns-in_default c =
    reaches_none c.args.wanted c.loop-found.found c.loop-found.transition c.loop-found.before c.in_default.is c.loop-found.invariant.0 c.loop-found.invariant.1 c.nowhere.result c.nowhere.ensures

pub open_transition-arcs-requires : goal.open_transition-arcs-requires
open_transition-arcs-requires c =
    let d = due_by _ _ _ _ c.in-Some.is c.loop-found.invariant.0 in
    record {
      owned = due_owned d;
      lent = due_lent d;
      starts_len = (d.sized.in_starts, d.sized.in_sizes);
    }

pub overflow_add-before : goal.overflow_add-before
overflow_add-before c =
    let d = due_by _ _ _ _ c.in-Some.is c.loop-found.invariant.0 in
    omega (arith, sum_low c.args.wanted d c.open_transition-arcs.result c.open_transition-arcs.ensures.told)

pub shape_of-marks-then-wanted-before : goal.shape_of-marks-then-wanted-before
shape_of-marks-then-wanted-before c =
    omega (arith, c.open_transition-arcs.ensures.shared.marks_are.size, c.requires.1.in_marks)

pub shape_of-uses-then-wanted-before : goal.shape_of-uses-then-wanted-before
shape_of-uses-then-wanted-before c =
    omega (arith, c.open_transition-arcs.ensures.shared.uses_are.size, c.requires.1.in_uses)

pub shape_of-starts-then-wanted-before : goal.shape_of-starts-then-wanted-before
shape_of-starts-then-wanted-before c =
    omega (arith, c.open_transition-arcs.ensures.laid.in_starts, c.requires.1.in_starts)

pub shape_of-sizes-then-wanted-before : goal.shape_of-sizes-then-wanted-before
shape_of-sizes-then-wanted-before c =
    omega (arith, c.open_transition-arcs.ensures.laid.in_sizes, c.requires.1.in_sizes)

pub returns-then-wanted-before : goal.returns-then-wanted-before
returns-then-wanted-before c =
    let d = due_by _ _ _ _ c.in-Some.is c.loop-found.invariant.0 in
    reaches_here c.args.wanted d _ _ _ _ c.open_transition-arcs.ensures.shared c.open_transition-arcs.ensures.laid c.open_transition-arcs.result c.open_transition-arcs.ensures.told c.loop-found.invariant.1 c.if-wanted-before.true

pub next_owner-found-requires : goal.next_owner-found-requires
next_owner-found-requires c =
    let d = due_by _ _ _ _ c.in-Some.is c.loop-found.invariant.0 in
    record {
      within = within_laid _ _ _ _ _ c.requires.0.laid c.requires.0.all;
      owner = owner_at (due_owned d);
    }

pub overflow_add-transition : goal.overflow_add-transition
overflow_add-transition c =
    let d = due_by _ _ _ _ c.in-Some.is c.loop-found.invariant.0 in
    omega (arith, due_low c.args.wanted d, d.table.laid.few_events)

pub overflow_add-before-in-loop-found : goal.overflow_add-before-in-loop-found
overflow_add-before-in-loop-found c =
    let d = due_by _ _ _ _ c.in-Some.is c.loop-found.invariant.0 in
    omega (arith, sum_low c.args.wanted d c.open_transition-arcs.result c.open_transition-arcs.ensures.told)

pub loop-found-smaller : goal.loop-found-smaller
loop-found-smaller c =
    let d = due_by _ _ _ _ c.in-Some.is c.loop-found.invariant.0 in
    omega (arith, due_low c.args.wanted d)

pub loop-found-preserved : goal.loop-found-preserved
loop-found-preserved c =
    let d = due_by _ _ _ _ c.in-Some.is c.loop-found.invariant.0 in
    reaches_on c.args.wanted d _ _ _ _ c.open_transition-arcs.ensures.shared c.open_transition-arcs.ensures.laid c.open_transition-arcs.result c.open_transition-arcs.ensures.told c.if-wanted-before.false c.next_owner-found.result c.next_owner-found.ensures
