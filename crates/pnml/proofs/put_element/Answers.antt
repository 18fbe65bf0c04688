-- Each element is put by its own function.
use mathlib.Core.Path.{sym, ap}
use Rattle.pnml.specs.Text.{text_of}
use Rattle.spelling.proofs.Texts.{same_text}
use Rattle.pnml.proofs.put_element.Goals as goal

pub returns-in-Opens : goal.returns-in-Opens
returns-in-Opens c =
    same_text (ap (text_of c.args.conditions) (sym c.in-Opens.is)) c.put_opens.ensures

pub returns-in-Place : goal.returns-in-Place
returns-in-Place c =
    same_text (ap (text_of c.args.conditions) (sym c.in-Place.is)) c.put_place.ensures

pub returns-in-Transition : goal.returns-in-Transition
returns-in-Transition c =
    same_text (ap (text_of c.args.conditions) (sym c.in-Transition.is)) c.put_transition.ensures

pub returns-in-Arc : goal.returns-in-Arc
returns-in-Arc c =
    same_text (ap (text_of c.args.conditions) (sym c.in-Arc.is)) c.put_arc.ensures

pub returns-in-Closes : goal.returns-in-Closes
unfolding text_of
returns-in-Closes c =
    same_text (ap (text_of c.args.conditions) (sym c.in-Closes.is)) c.put_text.ensures
