-- A token or none.
use mathlib.Core.Path.{sym, ap}
use Rattle.pnml.specs.Text.{place_ends}
use Rattle.spelling.proofs.Texts.{same_text}
use Rattle.pnml.proofs.put_place_end.Goals as goal

pub returns-then-held : goal.returns-then-held
returns-then-held c =
    same_text (ap place_ends (sym c.if-held.true)) c.put_text.ensures

pub returns : goal.returns
returns c =
    same_text (ap place_ends (sym c.if-held.false)) c.put_text-2.ensures
