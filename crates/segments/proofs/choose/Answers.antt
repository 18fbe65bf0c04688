-- `segments::choose` meets its contract.
use native.Mathlib.Omega.{arith}
use mathlib.Core.Path.{◌∙◌, refl, sym, ap}
use lib.ListN.{length-set}
use Rattle.words.specs.Numbers.{numbers_left}
use Rattle.segments.proofs.Chosen.{walk_divides, walk_again, walk_low, walk_choosing, walk_chosen, chosen_end}
use Rattle.segments.proofs.choose.Goals as goal

pub loop-b-init : goal.loop-b-init
loop-b-init c =
    let whole = ap numbers_left c.into_iter-b-iterator.ensures.into_iter_gives ∙ c.numbers-b-items.ensures.left in
    rw whole (refl, c.requires.choosing, refl)

pub nonzero_div-above : goal.nonzero_div-above
nonzero_div-above c =
    let first = rw (← c.from-b.ensures) at c.in-Some.ensures.steps in
    walk_divides _ _ _ _ _ first _ _ c.loop-b.invariant.1 _ c.choices-above.ensures

pub nonzero_div-chosen : goal.nonzero_div-chosen
nonzero_div-chosen c =
    let first = rw (← c.from-b.ensures) at c.in-Some.ensures.steps in
    walk_again _ _ _ _ _ first _ _ c.loop-b.invariant.1 _ c.choices-above.ensures

pub bounds-chosen-b : goal.bounds-chosen-b
bounds-chosen-b c =
    let first = rw (← c.from-b.ensures) at c.in-Some.ensures.steps in
    omega (arith, walk_low _ _ _ _ _ first _ _ c.loop-b.invariant.1 _ c.choices-above.ensures)

pub nonzero_rem-left : goal.nonzero_rem-left
nonzero_rem-left c =
    let first = rw (← c.from-b.ensures) at c.in-Some.ensures.steps in
    walk_again _ _ _ _ _ first _ _ c.loop-b.invariant.1 _ c.choices-above.ensures

pub loop-b-preserved : goal.loop-b-preserved
loop-b-preserved c =
    let i = c.loop-b.invariant in
    let first = rw (← c.from-b.ensures) at c.in-Some.ensures.steps in
    let choosing = walk_choosing _ _ _ _ _ first _ _ i.1 _ c.choices-above.ensures in
    let chosen = walk_chosen _ _ _ _ _ first _ _ i.1 _ c.choices-above.ensures c.loop-b.chosen in
    (simp length-set i.0, choosing, chosen ∙ i.2)

pub returns : goal.returns
returns c =
    sym (chosen_end _ _ _ _ c.in-None.ensures.steps.0) ∙ c.loop-b.invariant.2
