-- `firsts::walk` meets its contract.
use borrow.Author.Tests.{eq-eqb, ne_eqb}
use native.Mathlib.Omega.{arith}
use Prim.Native.Nat.{ℕ}
use lib.ListN.{length, length-replicate}
use mathlib.Core.Path.{refl, ◌∙◌, sym, ap}
use mathlib.Core.Bool.{true, false}
use Rattle.table.specs.Decoded.{net_of}
use Rattle.firsts.specs.Firsts.{no_slots}
use Rattle.firsts.proofs.Along.{along_start, along_new, along_again, along_repeat, along_end}
use Rattle.firsts.proofs.Walking.{few_events, start_inside, start_length, start_first, post_inside, post_length, post_first, step_event, step_low, step_inside, step_offset, step_once, step_others}
use Rattle.firsts.proofs.walk.Goals as goal
use Rattle.firsts.proofs.walk.Goals.{then-seen-e-eq1+then-once-e-eq1, then-seen-e-eq1+else-once-e-eq1, else-seen-e-eq1}

pub overflow_cast-events : goal.overflow_cast-events
overflow_cast-events c =
    omega (arith, few_events _ _ c.requires.walkable.judged)

pub marked-firsts-requires : goal.marked-firsts-requires
marked-firsts-requires c =
    start_inside _ _ c.requires.walkable.judged _ c.offset.ensures _ c.marking_at-start.ensures.reads

pub loop-k-init : goal.loop-k-init
unfolding no_slots
loop-k-init c =
    let s = c.args.table.now in
    let j = c.requires.walkable.judged in
    let long = start_length s _ j _ c.offset.ensures _ c.marking_at-start.ensures.reads _ _ refl c.marked-firsts.ensures in
    let first = start_first s _ j _ c.offset.ensures _ c.marking_at-start.ensures.reads _ _ refl c.marked-firsts.ensures in
    along_start (net_of s) _ c.marked-firsts.result.slots _ c.requires.walkable.plays long first c.requires.seen_value

pub overflow_cast-e : goal.overflow_cast-e
overflow_cast-e c =
    omega (arith, step_low _ _ _ _ c.requires.walkable _ _ _ _ c.loop-k.invariant c.loop-k-test.true)

pub bounds-seen-e : goal.bounds-seen-e
bounds-seen-e c =
    omega (arith, step_low _ _ _ _ c.requires.walkable _ _ _ _ c.loop-k.invariant c.loop-k-test.true, c.loop-k.invariant.seens.size)

pub bounds-once-e : goal.bounds-once-e
bounds-once-e c =
    step_once _ _ _ _ c.requires.walkable _ _ _ _ c.loop-k.invariant c.loop-k-test.true _ c.requires.once

pub bounds-seen-e-else-seen-e-eq1 : goal.bounds-seen-e-else-seen-e-eq1
bounds-seen-e-else-seen-e-eq1 c =
    omega (arith, step_low _ _ _ _ c.requires.walkable _ _ _ _ c.loop-k.invariant c.loop-k-test.true, c.loop-k.invariant.seens.size)

pub offset_bounds-offsets-e : goal.offset_bounds-offsets-e
offset_bounds-offsets-e c =
    omega (arith, step_low _ _ _ _ c.requires.walkable _ _ _ _ c.loop-k.invariant c.loop-k-test.true)

pub bounds-offsets-e : goal.bounds-offsets-e
bounds-offsets-e c =
    step_inside _ _ _ _ c.requires.walkable _ _ _ _ c.loop-k.invariant c.loop-k-test.true

pub marked-firsts-requires-else-seen-e-eq1 : goal.marked-firsts-requires-else-seen-e-eq1
marked-firsts-requires-else-seen-e-eq1 c =
    let e = step_event _ _ _ _ c.requires.walkable _ _ _ _ c.loop-k.invariant c.loop-k-test.true in
    let o = step_offset _ _ _ _ c.requires.walkable _ _ _ _ c.loop-k.invariant c.loop-k-test.true in
    post_inside _ _ c.requires.walkable.judged _ e _ o _ c.list_at-post.ensures

pub loop-k-preserved : goal.loop-k-preserved
loop-k-preserved c =
    let walkable = c.requires.walkable in
    let i = c.loop-k.invariant in
    let test = c.loop-k-test.true in
    let j = walkable.judged in
    let low = step_low _ _ _ _ walkable _ _ _ _ i test in
    elim c.if-seen-e-eq1.branch [
      | then-seen-e-eq1+then-once-e-eq1 w ↦
          let m = step_others _ _ _ _ walkable _ _ _ _ i test _ c.requires.once true (eq-eqb _ 1 w.if-once-e-eq1.true) in
          rw (w.seen-is, w.firsts-is, w.repeat-is, w.or-repeat.ensures) (along_repeat _ _ _ _ _ _ i test _ refl low w.if-seen-e-eq1.true m _ refl)
      | then-seen-e-eq1+else-once-e-eq1 w ↦
          let m = step_others _ _ _ _ walkable _ _ _ _ i test _ c.requires.once false (ne_eqb _ 1 w.if-once-e-eq1.false) in
          rw (w.seen-is, w.firsts-is, w.repeat-is) (along_again _ _ _ _ _ _ i test _ refl low w.if-seen-e-eq1.true m)
      | else-seen-e-eq1 w ↦
          let e = step_event _ _ _ _ walkable _ _ _ _ i test in
          let o = step_offset _ _ _ _ walkable _ _ _ _ i test in
          let long = post_length _ _ j _ e _ o _ w.list_at-post.ensures _ _ i.firsts.size w.marked-firsts-else-seen-e-eq1.ensures in
          let first = post_first _ _ j _ e _ o _ w.list_at-post.ensures _ _ i.firsts.size w.marked-firsts-else-seen-e-eq1.ensures in
          rw (w.seen-is, w.firsts-is, w.repeat-is) (along_new _ _ _ _ _ _ i test _ refl low w.if-seen-e-eq1.false _ long first)
    ]

pub shape_of-seen : goal.shape_of-seen
shape_of-seen c =
    c.loop-k.invariant.seens.size ∙ sym (ap length c.requires.seen_value ∙ length-replicate {A = ℕ} 256 0)

pub returns : goal.returns
returns c =
    along_end _ _ _ _ _ _ c.loop-k.invariant c.loop-k-test.false _ refl refl
