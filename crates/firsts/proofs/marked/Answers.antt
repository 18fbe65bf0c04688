-- `firsts::marked` meets its contract.
use mathlib.Core.Path.{◌∙◌, sym}
use Rattle.tally.proofs.Lists.{first_inside, rest_inside}
use Rattle.firsts.proofs.Marking.{marked_first, marked_none}
use Rattle.firsts.proofs.marked.Goals as goal

pub mark_one-next-requires : goal.mark_one-next-requires
mark_one-next-requires c =
    rw c.from.ensures (first_inside _ _ _ c.in-Some.ensures.steps _ c.loop-b.invariant.0)

pub loop-b-preserved : goal.loop-b-preserved
loop-b-preserved c =
    let first = c.in-Some.ensures.steps in
    let one = rw c.from.ensures at c.mark_one-next.ensures in
    (rest_inside _ _ _ first _ c.loop-b.invariant.0, marked_first _ _ _ _ first _ c.args.m one ∙ c.loop-b.invariant.1)

pub returns : goal.returns
returns c =
    sym (marked_none _ _ c.in-None.ensures.steps.0 _ _) ∙ c.loop-b.invariant.1
