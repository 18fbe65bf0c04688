-- `event_numbers::weigh` meets its contract.
use native.Mathlib.Omega.{arith}
use mathlib.Core.Path.{◌∙◌, sym}
use Rattle.event_numbers.proofs.Weights.{carrying_first, carrying_past, few_markers, not_marking, marked_fits, carrying_marked}
use Rattle.event_numbers.proofs.weigh.Goals as goal
use Rattle.event_numbers.proofs.weigh.Goals.{then-is_persistent+else-at-c+else-radix-place, else-is_persistent}

pub loop-i-init : goal.loop-i-init
loop-i-init c =
    (omega arith, omega arith, carrying_first c.args.table.now c.args.markers.now c.args.events c.args.pre.now c.args.c c.requires.weighing)

pub returns-then-at-c : goal.returns-then-at-c
returns-then-at-c c =
    few_markers c.args.table.now c.args.pre.now c.args.c c.loop-i.number c.loop-i.at c.loop-i.i c.loop-i.invariant.2 c.args.markers.now c.requires.weighing.within.marked c.loop-i-test.true c.word_within-b.result c.word_within-b.ensures (sym c.is_persistent.ensures ∙ c.if-is_persistent.true) c.if-at-c.true

pub returns-then-radix-place : goal.returns-then-radix-place
returns-then-radix-place c =
    not_marking c.args.table.now c.args.pre.now c.args.c c.loop-i.number c.loop-i.at c.loop-i.i c.loop-i.invariant.2 c.args.markers.now c.requires.weighing.within.marked c.loop-i-test.true c.word_within-b.result c.word_within-b.ensures (sym c.is_persistent.ensures ∙ c.if-is_persistent.true) (omega (arith, c.loop-i.invariant.1, c.if-at-c.false)) c.marker_place-place.result c.marker_place-place.ensures c.number-radix.result c.number-radix.ensures c.if-radix-place.true

pub overflow_mul-number : goal.overflow_mul-number
overflow_mul-number c =
    omega (arith, marked_fits c.args.table.now c.args.pre.now c.args.c c.loop-i.number c.loop-i.at c.loop-i.i c.loop-i.invariant.2 c.args.markers.now c.requires.weighing.within.marked c.loop-i-test.true c.word_within-b.result c.word_within-b.ensures (sym c.is_persistent.ensures ∙ c.if-is_persistent.true) (omega (arith, c.loop-i.invariant.1, c.if-at-c.false)) c.marker_place-place.result c.marker_place-place.ensures c.number-radix.result c.number-radix.ensures c.if-radix-place.false)

pub overflow_add-number : goal.overflow_add-number
overflow_add-number c =
    omega (arith, marked_fits c.args.table.now c.args.pre.now c.args.c c.loop-i.number c.loop-i.at c.loop-i.i c.loop-i.invariant.2 c.args.markers.now c.requires.weighing.within.marked c.loop-i-test.true c.word_within-b.result c.word_within-b.ensures (sym c.is_persistent.ensures ∙ c.if-is_persistent.true) (omega (arith, c.loop-i.invariant.1, c.if-at-c.false)) c.marker_place-place.result c.marker_place-place.ensures c.number-radix.result c.number-radix.ensures c.if-radix-place.false)

pub loop-i-preserved : goal.loop-i-preserved
loop-i-preserved c =
    elim c.if-is_persistent.branch [
      | then-is_persistent+else-at-c+else-radix-place t ↦ (omega arith, omega (arith, c.loop-i.invariant.1, t.if-at-c.false, t.at-is), rw (t.number-is, t.at-is) (carrying_marked c.args.table.now c.args.pre.now c.args.c c.loop-i.number c.loop-i.at c.loop-i.i c.loop-i.invariant.2 c.args.markers.now c.requires.weighing.within.marked c.loop-i-test.true c.word_within-b.result c.word_within-b.ensures (sym c.is_persistent.ensures ∙ t.if-is_persistent.true) (omega (arith, c.loop-i.invariant.1, t.if-at-c.false)) t.marker_place-place.result t.marker_place-place.ensures t.number-radix.result t.number-radix.ensures t.if-radix-place.false))
      | else-is_persistent t ↦ (omega arith, omega (arith, c.loop-i.invariant.1, t.at-is), rw (t.number-is, t.at-is) (carrying_past c.args.table.now c.args.pre.now c.args.c c.loop-i.number c.loop-i.at c.loop-i.i c.loop-i.invariant.2 c.args.markers.now c.requires.weighing.within.marked c.loop-i-test.true c.word_within-b.result c.word_within-b.ensures (sym c.is_persistent.ensures ∙ t.if-is_persistent.false)))
    ]
