-- `exchange::apart_steps` meets its contract.
use native.Mathlib.Omega.{arith}
use mathlib.Core.Path.{◌∙◌}
use Prim.Native.Nat.{◌+◌, ◌-◌}
use Rattle.table.proofs.Walk.{accepted}
use Rattle.played.proofs.Begun.{begun_plays}
use Rattle.exchange.proofs.Exchanging.{step_below, step_found, before_fine, apart_asked}
use Rattle.exchange.proofs.apart_steps.Goals as goal

pub start_held-start-requires : goal.start_held-start-requires
start_held-start-requires c =
    c.requires.judged

pub slice_bounds-play-count : goal.slice_bounds-play-count
slice_bounds-play-count c =
    omega (arith, c.requires.next)

pub slice_bounds-play-start : goal.slice_bounds-play-start
slice_bounds-play-start c =
    omega (arith, c.requires.next)

pub slice_bounds-play-end : goal.slice_bounds-play-end
slice_bounds-play-end c =
    omega (arith, c.requires.next)

pub play-requires : goal.play-requires
play-requires c =
    (c.requires.judged, c.requires.indexed)

pub offset_bounds-run-k : goal.offset_bounds-run-k
offset_bounds-run-k c =
    omega (arith, c.requires.next)

pub bounds-run-k : goal.bounds-run-k
bounds-run-k c =
    omega (arith, c.requires.next)

pub overflow_add-f : goal.overflow_add-f
overflow_add-f c =
    omega (arith, c.requires.next)

pub offset_bounds-run-k-2 : goal.offset_bounds-run-k-2
offset_bounds-run-k-2 c =
    omega (arith, c.requires.next)

pub bounds-run-k-2 : goal.bounds-run-k-2
bounds-run-k-2 c =
    omega (arith, c.requires.next)

pub overflow_cast-e : goal.overflow_cast-e
overflow_cast-e c =
    omega (arith, c.requires.indexed.long, (accepted _ _ c.requires.judged).few, step_below _ _ _ _ _ c.requires c.args.k (omega (arith, c.requires.next)))

pub offset_bounds-offsets-e : goal.offset_bounds-offsets-e
offset_bounds-offsets-e c =
    omega (arith, c.requires.indexed.long, (accepted _ _ c.requires.judged).few, step_below _ _ _ _ _ c.requires c.args.k (omega (arith, c.requires.next)))

pub bounds-offsets-e : goal.bounds-offsets-e
bounds-offsets-e c =
    omega (arith, c.requires.indexed.long, step_below _ _ _ _ _ c.requires c.args.k (omega (arith, c.requires.next)))

pub overflow_cast-f : goal.overflow_cast-f
overflow_cast-f c =
    omega (arith, c.requires.indexed.long, (accepted _ _ c.requires.judged).few, step_below _ _ _ _ _ c.requires (c.args.k + 1) (omega (arith, c.requires.next)))

pub offset_bounds-offsets-f : goal.offset_bounds-offsets-f
offset_bounds-offsets-f c =
    omega (arith, c.requires.indexed.long, (accepted _ _ c.requires.judged).few, step_below _ _ _ _ _ c.requires (c.args.k + 1) (omega (arith, c.requires.next)))

pub bounds-offsets-f : goal.bounds-offsets-f
bounds-offsets-f c =
    omega (arith, c.requires.indexed.long, step_below _ _ _ _ _ c.requires (c.args.k + 1) (omega (arith, c.requires.next)))

pub apart_at-requires : goal.apart_at-requires
apart_at-requires c =
    (step_found _ _ _ _ _ c.requires c.args.k (omega (arith, c.requires.next)), step_found _ _ _ _ _ c.requires (c.args.k + 1) (omega (arith, c.requires.next)))

pub unwrap-before-requires : goal.unwrap-before-requires
unwrap-before-requires c =
    let played = begun_plays _ _ _ c.start_held-start.ensures _ _ c.play.ensures in
    before_fine _ _ _ _ _ c.requires (c.args.k - 0) (omega arith) _ played

pub returns : goal.returns
returns c =
    c.apart_at.ensures ∙ apart_asked _ _ _ _ _ c.requires (c.args.k - 0) (c.args.k + 1) (omega arith) (omega arith) _ _ (begun_plays _ _ _ c.start_held-start.ensures _ _ c.play.ensures) c.unwrap-before.ensures
