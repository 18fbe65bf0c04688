-- `held::collect` meets its contract.
use native.Mathlib.Omega.{arith}
use mathlib.Core.Path.{ap, ◌∙◌}
use Rattle.words.specs.Numbers.{numbers_left}
use Rattle.held.proofs.Words.{collect_none, collect_more, collect_over, collect_end}
use Rattle.held.proofs.collect.Goals as goal

pub loop-b-init : goal.loop-b-init
loop-b-init c =
    let whole = ap numbers_left c.into_iter-b-iterator.ensures.into_iter_gives ∙ c.numbers-b-items.ensures.left in
    collect_none _ _ whole

pub loop-b-preserved-then-place-lt4 : goal.loop-b-preserved-then-place-lt4
loop-b-preserved-then-place-lt4 c =
    rw c.from-place.ensures (collect_more _ _ _ _ c.in-Some.ensures.steps _ c.loop-b.invariant (omega arith))

pub loop-b-preserved : goal.loop-b-preserved
loop-b-preserved c =
    collect_over _ _ _ _ c.in-Some.ensures.steps _ c.loop-b.invariant (omega arith)

pub returns : goal.returns
returns c = collect_end _ _ _ c.in-None.ensures.steps.0 c.loop-b.invariant
