-- `arcs::shift_at` meets its contract.
use mathlib.Core.Path.{sym, ◌∙◌, ap}
use Rattle.sides.specs.declared.Side.{Side}
use Rattle.arcs.specs.Arcs.{shift_of}
use Rattle.arcs.proofs.shift_at.Goals as goal

pub returns-in-Takes : goal.returns-in-Takes
returns-in-Takes c =
    ap (λ (y : Side). shift_of c.args.firsts y) (sym c.in-Takes.is ∙ c.side_at-side.ensures)

pub returns-in-Fills : goal.returns-in-Fills
returns-in-Fills c =
    ap (λ (y : Side). shift_of c.args.firsts y) (sym c.in-Fills.is ∙ c.side_at-side.ensures)

pub returns-in-Puts : goal.returns-in-Puts
returns-in-Puts c =
    ap (λ (y : Side). shift_of c.args.firsts y) (sym c.in-Puts.is ∙ c.side_at-side.ensures)

pub returns-in-Empties : goal.returns-in-Empties
returns-in-Empties c =
    ap (λ (y : Side). shift_of c.args.firsts y) (sym c.in-Empties.is ∙ c.side_at-side.ensures)
