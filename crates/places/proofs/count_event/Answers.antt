-- `places::count_event` meets its contract.
use native.Mathlib.Omega.{arith}
use mathlib.Core.Path.{◌∙◌, sym}
use lib.ListN.{length-set}
use Rattle.words.proofs.Laws.{length_words}
use Rattle.tally.proofs.Lists.{first_inside, rest_inside}
use Rattle.places.proofs.Counting.{more_one, more_first, placed_first, placed_none}
use Rattle.places.proofs.count_event.Goals as goal

pub bounds-places-b : goal.bounds-places-b
bounds-places-b c =
    rw c.from-b.ensures (first_inside _ _ _ c.in-Some.ensures.steps _ c.loop-b.invariant.1)

pub bounds-firsts-b : goal.bounds-firsts-b
bounds-firsts-b c =
    omega (arith, c.from-b.ensures, first_inside _ _ _ c.in-Some.ensures.steps _ c.loop-b.invariant.1, c.requires.places_len)

pub overflow_add-places : goal.overflow_add-places
overflow_add-places c =
    let one = more_one _ c.args.e c.place_more.ensures in
    omega (arith, c.loop-b.invariant.0 c.from-b.result, length_words c.args.list.now, c.requires.room.few)

pub bounds-places-b-in-loop-b : goal.bounds-places-b-in-loop-b
bounds-places-b-in-loop-b c =
    rw c.from-b.ensures (first_inside _ _ _ c.in-Some.ensures.steps _ c.loop-b.invariant.1)

pub loop-b-preserved : goal.loop-b-preserved
loop-b-preserved c =
    let i = c.loop-b.invariant in
    let first = c.in-Some.ensures.steps in
    let more = rw c.from-b.ensures at c.place_more.ensures in
    let low = more_first _ _ _ first c.loop-b.places _ _ (more_one _ c.args.e more) i.0 in
    let placed = placed_first _ _ _ first c.args.firsts.slots c.args.e c.loop-b.places more ∙ i.2 in
    rw c.from-b.ensures (low, simp length-set (rest_inside _ _ _ first _ i.1), placed)

pub returns : goal.returns
returns c =
    sym (placed_none _ _ _ _ c.in-None.ensures.steps.0) ∙ c.loop-b.invariant.2
