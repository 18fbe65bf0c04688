-- `places::joined_all` meets its contract.
use mathlib.Core.Path.{◌∙◌, sym}
use Rattle.tally.proofs.Lists.{rest_inside}
use Rattle.places.proofs.Joined.{joined_first, joined_none, joined_few, marked_low}
use Rattle.places.proofs.joined_all.Goals as goal

pub joined_one-number-requires : goal.joined_one-number-requires
joined_one-number-requires c =
    (marked_low _ _ c.requires.marked, c.requires.low, joined_few _ _ _ _ c.requires c.loop-b.number _ c.loop-b.invariant.0 c.loop-b.invariant.1)

pub loop-b-preserved : goal.loop-b-preserved
loop-b-preserved c =
    let first = c.in-Some.ensures.steps in
    let more = rw c.from.ensures at c.joined_one-number.ensures in
    (rest_inside _ _ _ first _ c.loop-b.invariant.0, joined_first _ _ _ _ _ _ first c.loop-b.number more ∙ c.loop-b.invariant.1)

pub returns : goal.returns
returns c =
    sym (joined_none _ _ _ _ c.in-None.ensures.steps.0 _) ∙ c.loop-b.invariant.1
