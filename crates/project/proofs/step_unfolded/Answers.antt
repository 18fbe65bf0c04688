-- `project::step_unfolded` meets its contract.
use native.Mathlib.Omega.{arith}
use Rattle.project.proofs.Apart.{few_events}
use Rattle.project.proofs.Steps.{stops_unknown, tried, step_told}
use Rattle.project.proofs.step_unfolded.Goals as goal

pub overflow_cast-j : goal.overflow_cast-j
overflow_cast-j c =
    omega (arith, c.shared_slice_known-8-1.given c.args.k)

pub bounds-before-offsets : goal.bounds-before-offsets
bounds-before-offsets c =
    omega (arith, c.requires.underway.equipped.numbered.sizes.size, few_events _ _ _ _ c.requires.underway.equipped.numbered)

pub returns-then-before-offsets : goal.returns-then-before-offsets
returns-then-before-offsets c =
    stops_unknown _ _ _ _ _ _ _ _ _ _ _ _ c.requires.underway c.requires.k_in_bounds c.if-before-offsets.true

pub step_coloured-requires : goal.step_coloured-requires
step_coloured-requires c =
    tried _ _ _ _ _ _ _ _ _ _ _ _ c.requires.underway c.requires.k_in_bounds c.if-before-offsets.false _ _ _ c.lay_colour-e.ensures

pub returns : goal.returns
returns c =
    step_told _ _ _ _ _ _ _ _ _ _ _ _ c.requires.underway c.requires.k_in_bounds c.if-before-offsets.false _ _ _ c.lay_colour-e.ensures _ _ _ c.step_coloured.ensures.answer c.step_coloured.ensures.after c.step_coloured.ensures.noted
