-- `project::lay_colour` meets its contract.
use native.Mathlib.Omega.{arith}
use Rattle.project.proofs.Apart.{few_events, surrounded, choosing, coloured}
use Rattle.project.proofs.lay_colour.Goals as goal

pub event_of-e-requires : goal.event_of-e-requires
event_of-e-requires c =
    surrounded _ _ _ _ c.requires.numbered _ c.requires.j_bound

pub bounds-before-e : goal.bounds-before-e
bounds-before-e c =
    omega (arith, c.event_of-e.ensures.event, c.requires.numbered.sizes.size, few_events _ _ _ _ c.requires.numbered)

pub bounds-before-e-2 : goal.bounds-before-e-2
bounds-before-e-2 c =
    omega (arith, c.event_of-e.ensures.event, c.requires.numbered.sizes.size, few_events _ _ _ _ c.requires.numbered)

pub choose-requires : goal.choose-requires
choose-requires c =
    choosing _ _ _ _ c.requires.numbered _ _ c.event_of-e.ensures _ c.pre_at-pre.ensures.reads _ _ c.requires.kept

pub returns : goal.returns
returns c =
    coloured _ _ _ _ c.requires.numbered _ _ c.event_of-e.ensures _ c.pre_at-pre.ensures.reads _ _ _ c.choose.ensures
