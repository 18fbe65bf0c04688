-- `export_places::element_at` meets its contract.
use mathlib.Core.Path.{sym, ap, ◌∙◌, subst}
use Rattle.pnml.specs.declared.Element.TheVariants as element
use Rattle.export_places.specs.declared.Place as declared
use Rattle.export_places.specs.Needs.{element_at, Shown}
use Rattle.export_places.proofs.element_at.Goals as goal

pub held-requires : goal.held-requires
held-requires c =
    (c.requires.0, subst (λ (p : declared.Place). Shown c.args.conditions c.args.starts.now p) c.in-Place.is c.requires.1)

pub link_at-requires : goal.link_at-requires
link_at-requires c =
    subst (λ (p : declared.Place). Shown c.args.conditions c.args.starts.now p) c.in-Arc.is c.requires.1

pub returns-in-Place : goal.returns-in-Place
returns-in-Place c =
    ap (element.Place c.in-Place.x) c.held.ensures ∙ ap (element_at c.args.table.now c.args.conditions c.args.start.now c.args.starts.now) (sym c.in-Place.is)

pub returns-in-Transition : goal.returns-in-Transition
returns-in-Transition c =
    ap (element_at c.args.table.now c.args.conditions c.args.start.now c.args.starts.now) (sym c.in-Transition.is)

pub returns-in-Arc : goal.returns-in-Arc
returns-in-Arc c =
    ap (element.Arc c.in-Arc.spot.number) c.link_at.ensures ∙ ap (element_at c.args.table.now c.args.conditions c.args.start.now c.args.starts.now) (sym c.in-Arc.is)
