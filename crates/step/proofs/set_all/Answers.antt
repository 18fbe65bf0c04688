-- `step::set_all` meets its contract.
use mathlib.Core.Path.{◌∙◌, sym}
use Rattle.step.proofs.Lists.{set_next, set_end}
use Rattle.step.proofs.set_all.Goals as goal

pub loop-b-preserved : goal.loop-b-preserved
loop-b-preserved c =
    let next = set_next c.args.kept.now c.args.value _ c.loop-b.state _ _ c.in-Some.ensures.steps in
    c.loop-b.invariant ∙ next ∙ rw (c.set_one.ensures, c.from.ensures)

pub returns : goal.returns
returns c = sym (c.loop-b.invariant ∙ set_end c.args.kept.now c.args.value _ c.loop-b.state c.in-None.ensures.steps.0)
